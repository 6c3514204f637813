-- What holds of the world after every move, beside a run of the world of nodes.
use Rattle.std.specs.Prelude.{◌≡◌, ◌⊎◌, ◌≤◌, ◌<◌, length, ℕ, true, Option, Some, None, []}
use Rattle.gr_ids.specs.declared.names.Inc.{Inc}
use Rattle.slot_values.specs.declared.value.Value.{Value}
use Rattle.paxos_forms.specs.declared.message.Message.{Message}
use Rattle.node_rules.specs.Lists.{In}
use Rattle.node_rules.specs.Node.{Node}
use Rattle.node_rules.specs.World as nodes
use Rattle.order_laws.specs.Laws.{slots_by}
use Rattle.group_rules.specs.Events.{Setup}
use Rattle.group_rules.specs.Member.{Member}
use Rattle.group_rules.specs.World.{World, Server, server_at, life_in, nothing_stored}
use Rattle.group_rules.specs.Legal.{WasMade}
use Rattle.group_bridge.specs.Left.{is_settled}
use Rattle.group_bridge.specs.Moves.{is_apart, slots_in}
use Rattle.group_runs.specs.Runs.{is_founder, running_in, stored_in, WasSent, AllDid, IsDone, IsNodeRun, TookIn, TookThen, OfSlots, HeardIn}

abbrev pub inc_of : Option Member → Option Inc
inc_of None = None
inc_of (Some a) = Some a.me.inc

-- a member that runs at a server
pub record IsRunning (t : Setup) (w : World) (v : nodes.World) (s : Server) (a : Member) : Type 0 where
  pub setup : a.setup ≡ t
  pub server : a.me.inc.server ≡ s.number
  pub start : a.me.inc.start ≡ s.starts
  pub node : v.at a.me.inc ≡ Some a.node
  pub life : life_in w.past a.me.inc ≡ a.life
  pub begun : 1 < length a.life
  pub settled : is_settled a.me.inc a.life ≡ true

-- the incarnation was started at its server
abbrev pub WasStarted : World → Inc → Type 0
WasStarted w i = (s : Server) × (server_at w i.server ≡ Some s) × (i.start ≤ s.starts)

pub record Inv (t : Setup) (w : World) (v : nodes.World) : Type 0 where
  pub run : IsNodeRun t v
  pub ended : v.ended ≡ []
  pub running : (n : ℕ) (s : Server) (a : Member) → server_at w n ≡ Some s → s.running ≡ Some a → IsRunning t w v s a
  pub runs : (n : ℕ) (s : Server) → server_at w n ≡ Some s → running_in w.past n ≡ inc_of s.running
  pub stored : (n : ℕ) (s : Server) → server_at w n ≡ Some s → s.stored ≡ stored_in w.past n
  pub unknown : (n : ℕ) → server_at w n ≡ None → (running_in w.past n ≡ None) × (stored_in w.past n ≡ nothing_stored)
  pub founders : (i : Inc) → is_founder t i ≡ true → WasStarted w i
  pub known : (i : Inc) → (v.at i ≡ None) ⊎ WasStarted w i
  pub lives : (i : Inc) → (life_in w.past i ≡ []) ⊎ WasStarted w i
  pub there : (i : Inc) → (life_in w.past i ≡ []) ⊎ ((n : Node) × (v.at i ≡ Some n))
  pub sent : (m : Message) → In m w.sent → In m v.wire ⊎ (is_apart m.wire ≡ true)
  pub told : (m : Message) → In m w.sent → WasSent t w.past m
  pub took : AllDid (OfSlots (TookIn t v)) w.past
  pub mids : AllDid (OfSlots (TookThen t)) w.past
  pub heard : AllDid (HeardIn v) w.past
  pub made : (u : Value) → In u v.made → WasMade w.past u
  pub slots : (i : Inc) → slots_by i v.took ≡ slots_in (life_in w.past i)
  pub done : AllDid (IsDone t) w.past
