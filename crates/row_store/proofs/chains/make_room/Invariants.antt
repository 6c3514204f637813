-- There is room for those so far, and no version has changed.
use Rattle.std.proofs.Common.{◌≡◌, true, take}
use Rattle.std.specs.Prelude.{nat_lt}
use Rattle.std.specs.List.{list_all}
use Rattle.key_items.specs.declared.item.Item.{Item}
use Rattle.row_store.proofs.ChainReads.{kept, spare}
use Rattle.row_store.proofs.chains.make_room.Given as goal

abbrev pub invariant-loop-change : goal.invariant-loop-change
invariant-loop-change l = record {
  same : (i : Item) → kept l.chains.entries i ≡ kept l.initial.chains.entries i;
  room : list_all (λ x. nat_lt 0 (spare l.chains.entries x.item)) (take l.change-index l.changes) ≡ true;
}
