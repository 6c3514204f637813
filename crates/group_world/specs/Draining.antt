-- Workers.
use Rattle.std.specs.Prelude.{ℕ, ◌^◌, Bool, true, false, Option, Some, None, [], ◌∷◌}
use Rattle.group_rules.specs.Member.{Member}
use Rattle.group_rules.specs.Script.{Play, drain_times, settle, waiting_at, work_by}
use Rattle.group_rules.specs.World.{member_at}

-- a place of it waits for a worker
abbrev pub has_work : Option Member → Bool
has_work None = false
has_work (Some a) = elim (waiting_at a) [ [] ↦ false | c ∷ cs ↦ true ]

-- the least place of the member that runs at the server is worked, and all is settled
abbrev pub worked_one : ℕ → Play → Play
worked_one n y = settle [] (work_by n None (member_at y.world n) y)

-- so again and again
abbrev pub worked_all : Play → Play
worked_all y = drain_times (2 ^ 42) y
