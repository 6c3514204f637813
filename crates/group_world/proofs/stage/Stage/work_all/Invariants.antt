-- The places that are left lead to the same.
use Rattle.std.proofs.Common.{◌-◌}
use Rattle.group_rules.specs.Script.{drain_times}
use Rattle.group_world.specs.Draining.{worked_all}
use Rattle.group_world.proofs.Turns.{IsLeft}
use Rattle.group_world.proofs.stage.Stage.work_all.Given as goal

abbrev pub invariant-loop : goal.invariant-loop
invariant-loop l = IsLeft drain_times worked_all (4398046511104 - l.counter) l.initial.self l.self
