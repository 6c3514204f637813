-- The ticks that are left lead to the same.
use Rattle.std.proofs.Common.{◌-◌}
use Rattle.group_rules.specs.Script.{tick_times}
use Rattle.group_world.proofs.Turns.{IsLeft}
use Rattle.group_world.proofs.stage.Stage.tick.Given as goal

abbrev pub invariant-loop : goal.invariant-loop
invariant-loop l = IsLeft (tick_times l.server) (tick_times l.server l.count) (l.count - l.counter) l.initial.self l.self
