-- The size so far, and what is left.
use Rattle.std.proofs.Common.{◌≡◌, ◌+◌, ◌≤◌, ◌-◌, ◌^◌, min, drop}
use Rattle.local_sessions.specs.Sizes.{changes_size}
use Rattle.local_sessions.proofs.sizes.changes_size.Given as goal

abbrev pub invariant-loop-change : goal.invariant-loop-change
invariant-loop-change l = (l.size ≤ 2 ^ 64 - 1) × (min (l.size + changes_size (drop l.change-index l.changes)) (2 ^ 64 - 1) ≡ min (changes_size l.changes) (2 ^ 64 - 1))
