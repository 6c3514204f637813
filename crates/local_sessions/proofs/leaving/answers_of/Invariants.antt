-- The answers so far, and those that are left.
use Rattle.std.proofs.Common.{◌≡◌, ◌++◌, drop}
use Rattle.local_sessions.specs.Others.{answers_left}
use Rattle.local_sessions.proofs.leaving.answers_of.Given as goal

abbrev pub invariant-loop-x : goal.invariant-loop-x
invariant-loop-x l = l.answers.items ++ answers_left l.taken (drop l.x-index l.list) ≡ answers_left l.taken l.list
