-- The copies so far, and what is left.
use Rattle.std.proofs.Common.{◌≡◌}
use Rattle.key_items.specs.declared.item.Item.{Item}
use Rattle.row_store.proofs.ChainReads.{at, kept}
use Rattle.row_store.proofs.Copies.{AreOf, copied_or}
use Rattle.row_store.proofs.copying.copy_chains.Given as goal

abbrev pub invariant-loop-item : goal.invariant-loop-item
invariant-loop-item l = record {
  whole : (i : Item) → copied_or (at l.copy.entries i) l.item-iterator i ≡ kept l.chains.entries i;
  rest : AreOf l.chains.entries l.item-iterator;
}
