-- What holds of all that happens in a run of the group: each thing was allowed by what had happened before, and the slots are those of a run of a world of nodes.
use Rattle.std.specs.Prelude.{◌≡◌, ◌⊎◌, ◌<◌, ℕ, Bool, true, false, Option, Some, None, List, [], ◌∷◌, ◌++◌, ◌==◌, length}
use Rattle.gr_ids.specs.Names.{has_inc, bytes_eq}
use Rattle.gr_ids.specs.declared.names.Inc.{Inc}
use Rattle.gr_ids.specs.declared.levels.MemberState.{MemberState}
use Rattle.gr_ids.specs.declared.levels.MemberState.TheVariants.{Offline, Online}
use Rattle.gtid_sets.specs.Canonical.{IsUuid}
use Rattle.gtid_sets.specs.Sets.{with_gtid}
use Rattle.slot_values.specs.declared.value.Joiner.{Joiner}
use Rattle.slot_values.specs.declared.value.Value.{Value}
use Rattle.slot_values.specs.declared.value.What.TheVariants.{Add}
use Rattle.slot_values.specs.Log.{Turns}
use Rattle.paxos_forms.specs.declared.message.Message.{Message}
use Rattle.paxos_forms.specs.declared.message.Wire.{Wire}
use Rattle.paxos_forms.specs.declared.message.Wire.TheVariants.{Welcome as Greet, Ask, Give}
use Rattle.paxos_forms.specs.declared.welcome.Welcome.{Welcome}
use Rattle.group_rules.specs.declared.marks.Effect.TheVariants.{Plain}
use Rattle.node_rules.specs.declared.taken.Taken.{Taken}
use Rattle.node_rules.specs.Lists.{In}
use Rattle.node_rules.specs.Node.{Node}
use Rattle.node_rules.specs.Welcoming.{welcome_of}
use Rattle.node_rules.specs.World as nodes
use Rattle.group_rules.specs.Events.{Did, Founds, Starts, Came, Took, Skips, Is, Event, Hears, Life, Setup, Stored, Entry}
use Rattle.group_rules.specs.Life.{state, is_up, view, executed, stored, certs}
use Rattle.group_rules.specs.View.{shown}
use Rattle.group_rules.specs.Steps.{group_of}
use Rattle.order_laws.specs.Laws.{slots_by}
use Rattle.group_rules.specs.World.{World, Move, world_after, Past, Does, Writes, Halts, life_in, nothing_stored, committed_of}
use Rattle.group_rules.specs.Legal.{IsPast, WasMade}
use Rattle.group_bridge.specs.Left.{IsAfterAll, IsSent, taken_left}
use Rattle.group_bridge.specs.Moves.{is_apart, IsAllowed, slots_in}

-- ---- the founding

-- of distinct servers
abbrev pub Apart : List Joiner → Type 0
Apart [] = Unit {0}
Apart (j ∷ js) = ((k : Joiner) → In k js → k.inc.server ≡ j.inc.server → ⊥) × Apart js

-- the founders are the first starts of distinct servers, whose UUIDs aren't the group's
pub record IsSetup (t : Setup) : Type 0 where
  pub first : (j : Joiner) → In j t.founders → j.inc.start ≡ 1
  pub apart : Apart t.founders
  pub horizon : 0 < t.limits.horizon
  pub block : 0 < t.limits.block
  pub group : IsUuid t.limits.group
  pub uuids : (j : Joiner) → In j t.founders → IsUuid j.uuid × (bytes_eq j.uuid t.limits.group ≡ false)

abbrev pub is_founder : Setup → Inc → Bool
is_founder t i = has_inc (group_of t).founders i

-- ---- servers, by what happened

-- the incarnation that runs at a server
abbrev pub running_in : Past → ℕ → Option Inc
running_in [] n = None
running_in (Does i d ∷ p) n = elim (i.server == n) [ true ↦ Some i | false ↦ running_in p n ]
running_in (Halts m ∷ p) n = elim (m == n) [ true ↦ None | false ↦ running_in p n ]
running_in (Writes m x ∷ p) n = running_in p n

abbrev pub stored_after : Stored → Past → Option Inc → Stored
stored_after x p None = x
stored_after x p (Some i) = let l : Life = life_in p i in record { executed = executed l; committed = (stored l).committed ++ committed_of l (certs l); writes = x.writes }

-- what a server has stored: it is what its last incarnation left that stopped, with the offline writes
abbrev pub stored_in : Past → ℕ → Stored
stored_in [] n = nothing_stored
stored_in (Does i d ∷ p) n = stored_in p n
stored_in (Halts m ∷ p) n = elim (m == n) [ true ↦ stored_after (stored_in p n) p (running_in p n) | false ↦ stored_in p n ]
stored_in (Writes m x ∷ p) n = elim (m == n) [ true ↦ (let y : Stored = stored_in p n in record { executed = with_gtid y.executed x.gtid; committed = y.committed; writes = y.writes ++ x ∷ [] }) | false ↦ stored_in p n ]

-- ---- messages

-- a member that was ONLINE took an Add with effect, and sent the joiner what its view then was
pub record WasGreeted (t : Setup) (p : Past) (m : Message) (w : Welcome) : Type 0 where
  pub who : Inc
  pub before : Past
  pub add : Entry
  pub took : IsPast (Does who (Took add) ∷ before) p
  pub joiner : Joiner
  pub adds : add.value.what ≡ Add joiner
  pub effect : add.effect ≡ Plain
  pub to : m.to ≡ joiner.inc
  pub up : is_up (state (life_in before who)) ≡ true
  pub node : Node
  pub turns : Turns
  pub welcome : w ≡ welcome_of node turns (shown (view t (Took add ∷ life_in before who)))

-- an Ask and a Give were sent by what their sender had done by then
abbrev pub WasTold : Setup → Past → Message → Type 0
WasTold t p m = (before : Past) × IsPast before p × IsSent t (life_in before m.from) m.to m.wire

abbrev pub WasSentAs : Setup → Past → Message → Wire → Type 0
WasSentAs t p m (Greet w) = WasGreeted t p m w
WasSentAs t p m (Ask x) = WasTold t p m
WasSentAs t p m (Give x) = WasTold t p m
WasSentAs t p m x = Unit {0}

abbrev pub WasSent : Setup → Past → Message → Type 0
WasSent t p m = WasSentAs t p m m.wire

-- ---- what is done

-- P holds of each thing that was done, with what had happened before
abbrev pub AllDid : (Past → Inc → Did → Type 0) → Past → Type 0
AllDid P [] = Unit {0}
AllDid P (Does i d ∷ p) = P p i d × AllDid P p
AllDid P (x ∷ p) = AllDid P p

-- it runs and has its first state, and has the own state that comes with what it took last
pub record IsActive (p : Past) (i : Inc) (d : Did) : Type 0 where
  pub running : running_in p i.server ≡ Some i
  pub begun : 1 < length (life_in p i)
  pub settled : IsAfterAll i d (life_in p i)

-- the rules allow it by what the incarnation had done before, in the step for some event
abbrev pub ByRules : Setup → Past → Inc → Did → Type 0
ByRules t p i d = IsActive p i d × ((e : Event) × IsAllowed e t i d (life_in p i))

-- the first state
abbrev pub IsFirst : Life → MemberState → Type 0
IsFirst l x = ((l ≡ Founds ∷ []) × (x ≡ Online)) ⊎ ((y : Stored) × (l ≡ Starts y ∷ []) × (x ≡ Offline))

-- A message that comes was sent before, to this incarnation.
abbrev pub IsDone : Setup → Past → Inc → Did → Type 0
IsDone t p i Founds = (running_in p i.server ≡ None) × (life_in p i ≡ []) × (is_founder t i ≡ true)
IsDone t p i (Starts x) = (running_in p i.server ≡ None) × (life_in p i ≡ []) × (is_founder t i ≡ false) × (x ≡ stored_in p i.server)
IsDone t p i (Came (Hears m)) = IsActive p i (Came (Hears m)) × (m.to ≡ i) × WasSent t p m
IsDone t p i (Is x c) = ((running_in p i.server ≡ Some i) × IsFirst (life_in p i) x) ⊎ ByRules t p i (Is x c)
IsDone t p i d = ByRules t p i d

-- ---- slots

abbrev pub as_sent : List Message → List Message
as_sent ms = ms

-- a run of the world of nodes
abbrev pub IsNodeRun : Setup → nodes.World → Type 0
IsNodeRun t v = (es : List nodes.Event) × (v ≡ nodes.run as_sent (group_of t) es)

-- The incarnation's node took a slot that leaves this.
abbrev pub TookIn : Setup → nodes.World → Past → Inc → Did → Type 0
TookIn t v p i d = (x : Taken) × In (record { by = i; taken = x }) v.took × (d ≡ taken_left t (life_in p i) x)

-- a slot was taken in some run of the nodes in which all that was made had been made by then
pub record TookThen (t : Setup) (p : Past) (i : Inc) (d : Did) : Type 0 where
  pub world : nodes.World
  pub run : IsNodeRun t world
  pub took : TookIn t world p i d
  pub made : (v : Value) → In v world.made → WasMade p v

abbrev pub OfSlots : (Past → Inc → Did → Type 0) → Past → Inc → Did → Type 0
OfSlots P p i (Took e) = P p i (Took e)
OfSlots P p i (Skips s v) = P p i (Skips s v)
OfSlots P p i d = Unit {0}

-- A message that is the node's came from the wire of the nodes.
abbrev pub HeardIn : nodes.World → Past → Inc → Did → Type 0
HeardIn v p i (Came (Hears m)) = In m v.wire ⊎ (is_apart m.wire ≡ true)
HeardIn v p i d = Unit {0}

-- ---- every run

-- A run of the nodes has the slots of all that happened: those of each incarnation, in order. Each thing was allowed by what had happened before.
pub record OfNodes (t : Setup) (w : World) : Type 0 where
  pub nodes : nodes.World
  pub run : IsNodeRun t nodes
  pub took : AllDid (OfSlots (TookIn t nodes)) w.past
  pub then : AllDid (OfSlots (TookThen t)) w.past
  pub heard : AllDid (HeardIn nodes) w.past
  pub there : (i : Inc) → (life_in w.past i ≡ []) ⊎ ((n : Node) × (nodes.at i ≡ Some n))
  pub slots : (i : Inc) → slots_by i nodes.took ≡ slots_in (life_in w.past i)
  pub done : AllDid (IsDone t) w.past

-- the world after any list of moves, once it was founded
abbrev pub EveryRun : Type 0
EveryRun = (ms : List Move) (t : Setup) → (world_after ms).setup ≡ Some t → IsSetup t → OfNodes t (world_after ms)
