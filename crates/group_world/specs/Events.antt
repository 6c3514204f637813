-- Events of members that run.
use Rattle.std.specs.Prelude.{◌≡◌, ℕ, Bool, true, false, List, map}
use Rattle.gr_ids.specs.declared.names.Inc.{Inc}
use Rattle.paxos_forms.specs.declared.message.Message.{Message}
use Rattle.member_messages.specs.declared.outgoing.Outgoing.{Outgoing}
use Rattle.group_rules.specs.declared.marks.Mark.{Mark}
use Rattle.group_rules.specs.declared.said.Said.{Said}
use Rattle.group_rules.specs.declared.said.Said.TheVariants.{Marked}
use Rattle.group_rules.specs.Events.{Event, Hears, Ticks, Works, Calls, Operates}
use Rattle.group_rules.specs.World.{Move, World, event_at, move, server_at}
use Rattle.group_runs.specs.Servers.{IsMove}
use Rattle.group_world.specs.declared.stage.Stage.{Stage}

-- a message comes
abbrev pub is_heard : Event → Bool
is_heard (Hears m) = true
is_heard Ticks = false
is_heard (Works p b) = false
is_heard (Calls s r) = false
is_heard (Operates o) = false

-- the move is this event at the server
pub record IsMoveOf (m : Move) (n : ℕ) (e : Event) (w : World) : Type 0 where
  pub allowed : IsMove m
  pub is_it : move m w ≡ event_at e (server_at w n) w

-- ---- what a step leaves

abbrev pub messages_in : List Outgoing → List Message
messages_in os = map {A = Outgoing} (λ o. o.message) os

abbrev pub said_by : Inc → List Mark → List Said
said_by i ms = map {A = Mark} (λ m. Marked i m) ms

-- all is as it was but what was sent and said
pub record IsBeside (x z : Stage) : Type 0 where
  pub servers : z.servers ≡ x.servers
  pub sites : z.sites ≡ x.sites
  pub block : z.block ≡ x.block
  pub founding : z.founding ≡ x.founding
