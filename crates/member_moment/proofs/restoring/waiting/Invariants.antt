-- Those so far, and those that are left, are all.
use Rattle.std.proofs.Common.{◌≡◌, ◌++◌, drop, map}
use Rattle.member_moment.specs.Joining.{waiting_of}
use Rattle.member_moment.proofs.restoring.waiting.Given as goal

abbrev pub invariant-loop-one : goal.invariant-loop-one
invariant-loop-one l = l.waiting.items ++ map waiting_of (drop l.one-index l.txns) ≡ map waiting_of l.txns
