-- Those so far are changed.
use Rattle.std.proofs.Common.{◌≡◌}
use Rattle.local_sessions.specs.Others.{killed_by}
use Rattle.local_sessions.proofs.EachOne.{changed_to}
use Rattle.local_sessions.proofs.losing.kill_losers.Given as goal

abbrev pub invariant-loop-x : goal.invariant-loop-x
invariant-loop-x l = l.list ≡ changed_to (killed_by l.gtid l.losers) l.x-index l.initial.list
