-- How the fields of a node are the node of the definitions.
use Rattle.std.specs.Prelude.{◌≡◌, ℕ, ◌+◌, ◌<◌, ◌≤◌, ◌^◌, Option, Some, None, option_map, ⊤}
use Rattle.gr_ids.specs.declared.names.Inc.{Inc}
use Rattle.slot_values.specs.Log.{Turns, last_in}
use Rattle.slot_values.specs.Turns.{Taken}
use Rattle.node_rules.specs.Learner.{Learner}
use Rattle.node_rules.specs.Leader.{Leader}

-- the state of the log that a node takes
abbrev pub log_of : Option Taken → Option Turns
log_of w = option_map (λ x. x.turns) w

-- the last kept number of a member
abbrev pub last_known : Option Turns → Inc → ℕ
last_known None i = 0
last_known (Some w) i = last_in w.reading.members i

-- no configuration is forgotten but by the state of the log itself
abbrev pub AllKept : Option Taken → Type 0
AllKept None = ⊤
AllKept (Some w) = w.low ≤ w.turns.base + 1

-- the slot to be handed out is the one after the last slot taken
abbrev pub IsAfter : Learner → Option Taken → Type 0
IsAfter d None = ⊤
IsAfter d (Some w) = d.slot ≡ w.turns.slot + 1

-- slots are left
abbrev pub HasRoom : Option Taken → Type 0
HasRoom None = ⊤
HasRoom (Some w) = w.turns.slot < 2 ^ 42

-- who leads knows a log
abbrev pub KnowsLog : Option Leader → Option Taken → Type 0
KnowsLog l None = l ≡ None
KnowsLog l (Some w) = ⊤

pub record FitsLog (d : Learner) (l : Option Leader) (w : Option Taken) : Type 0 where
  pub kept : AllKept w
  pub after : IsAfter d w
  pub knows : KnowsLog l w
