-- The rest of the settling leads to the same.
use Rattle.std.proofs.Common.{◌-◌}
use Rattle.group_rules.specs.Script.{settle, settle_times}
use Rattle.group_world.proofs.Turns.{IsLeft}
use Rattle.group_world.proofs.stage.Stage.settle.Given as goal

abbrev pub invariant-loop : goal.invariant-loop
invariant-loop l = IsLeft (settle_times l.among) (settle l.among) (1048576 - l.counter) l.initial.self l.self
