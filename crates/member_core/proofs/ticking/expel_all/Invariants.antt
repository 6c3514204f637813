-- Those that are left.
use Rattle.std.proofs.Common.{drop}
use Rattle.member_core.proofs.Ticked.{AreLeft}
use Rattle.member_core.proofs.ticking.expel_all.Given as goal

abbrev pub invariant-loop-inc : goal.invariant-loop-inc
invariant-loop-inc l = AreLeft (drop l.inc-index l.inc-items) l.fn.moment l.moment
