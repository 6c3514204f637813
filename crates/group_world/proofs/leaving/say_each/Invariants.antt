-- Those so far are said.
use Rattle.std.proofs.Common.{◌≡◌, ◌++◌}
use Rattle.group_world.specs.Events.{said_by}
use Rattle.group_world.proofs.leaving.say_each.Given as goal

abbrev pub invariant-loop-mark : goal.invariant-loop-mark
invariant-loop-mark l = l.said.items ≡ l.initial.said.items ++ said_by l.inc l.yielded
