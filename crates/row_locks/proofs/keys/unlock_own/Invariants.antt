-- The session leaves what is left after those so far.
use Rattle.std.proofs.Common.{◌≡◌, drop}
use Rattle.key_items.specs.declared.item.Item.{Item}
use Rattle.row_locks.proofs.KeyReads.{held, left_in}
use Rattle.row_locks.proofs.keys.unlock_own.Given as goal

abbrev pub invariant-loop-item : goal.invariant-loop-item
invariant-loop-item l = (j : Item) → left_in (drop l.item-index l.items) l.session (held l.keys.entries) j ≡ left_in l.items l.session (held l.initial.keys.entries) j
