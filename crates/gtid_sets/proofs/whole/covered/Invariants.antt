use Rattle.std.proofs.Common.{◌≡◌, ◌+◌, ◌-◌, length, drop}
use Rattle.gtid_sets.specs.Sets.{subset}
use Rattle.gtid_sets.proofs.whole.covered.Given as goal

abbrev pub invariant-loop-i : goal.invariant-loop-i
invariant-loop-i l = subset (drop l.i l.a) (drop l.j l.b) ≡ subset l.a l.b

abbrev pub decreases-loop-i : goal.decreases-loop-i
decreases-loop-i l = (length l.a - l.i) + (length l.b - l.j)
