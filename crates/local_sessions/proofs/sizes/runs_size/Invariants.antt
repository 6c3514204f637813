-- The size so far, and what is left.
use Rattle.std.proofs.Common.{◌≡◌, ◌+◌, ◌≤◌, ◌-◌, ◌^◌, min, length}
use Rattle.local_sessions.specs.Sizes.{runs_size}
use Rattle.local_sessions.proofs.sizes.runs_size.Given as goal

abbrev pub invariant-loop-run : goal.invariant-loop-run
invariant-loop-run l = (l.size ≤ 2 ^ 64 - 1) × (min (l.size + runs_size l.left) (2 ^ 64 - 1) ≡ min (runs_size l.runs) (2 ^ 64 - 1))

abbrev pub decreases-loop-run : goal.decreases-loop-run
decreases-loop-run l = length l.left
