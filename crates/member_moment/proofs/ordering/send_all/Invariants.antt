use Rattle.std.proofs.Common.{◌≡◌, ◌++◌}
use Rattle.member_moment.proofs.ordering.send_all.Given as goal

abbrev pub invariant-loop-message : goal.invariant-loop-message
invariant-loop-message l = l.to.items ≡ l.initial.to.items ++ l.yielded
