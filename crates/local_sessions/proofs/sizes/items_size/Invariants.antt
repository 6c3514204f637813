-- The size so far, and what is left.
use Rattle.std.proofs.Common.{◌≡◌, ◌+◌, ◌≤◌, ◌-◌, ◌^◌, min, drop}
use Rattle.local_sessions.specs.Sizes.{items_size}
use Rattle.local_sessions.proofs.sizes.items_size.Given as goal

abbrev pub invariant-loop-item : goal.invariant-loop-item
invariant-loop-item l = (l.size ≤ 2 ^ 64 - 1) × (min (l.size + items_size (drop l.item-index l.items)) (2 ^ 64 - 1) ≡ min (items_size l.items) (2 ^ 64 - 1))
