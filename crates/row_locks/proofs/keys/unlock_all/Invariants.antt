-- What is left is taken over after those so far.
use Rattle.std.proofs.Common.{◌≡◌, drop}
use Rattle.key_items.specs.declared.item.Item.{Item}
use Rattle.row_locks.specs.Locking.{taken_over}
use Rattle.row_locks.proofs.KeyReads.{held}
use Rattle.row_locks.proofs.keys.unlock_all.Given as goal

abbrev pub invariant-loop-item : goal.invariant-loop-item
invariant-loop-item l = (j : Item) → taken_over (drop l.item-index l.items) (held l.keys.entries) j ≡ taken_over l.items (held l.initial.keys.entries) j
