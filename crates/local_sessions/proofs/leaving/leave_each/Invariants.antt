-- Those so far are changed.
use Rattle.std.proofs.Common.{◌≡◌}
use Rattle.local_sessions.specs.Others.{left}
use Rattle.local_sessions.proofs.EachOne.{changed_to}
use Rattle.local_sessions.proofs.leaving.leave_each.Given as goal

abbrev pub invariant-loop-x : goal.invariant-loop-x
invariant-loop-x l = l.list ≡ changed_to left l.x-index l.initial.list
