use Rattle.std.proofs.Common.{◌≡◌, ◌+◌, ◌-◌, ◌++◌, length, drop}
use Rattle.gtid_sets.specs.Sets.{meet}
use Rattle.gtid_sets.proofs.parts.met.Given as goal

abbrev pub invariant-loop-i : goal.invariant-loop-i
invariant-loop-i l = l.runs.items ++ meet (drop l.i l.a) (drop l.j l.b) ≡ meet l.a l.b

abbrev pub decreases-loop-i : goal.decreases-loop-i
decreases-loop-i l = (length l.a - l.i) + (length l.b - l.j)
