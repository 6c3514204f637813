-- What is left can be put, and gives the rows after all changes.
use Rattle.std.proofs.Common.{◌≡◌, true, map}
use Rattle.std.specs.List.{list_all}
use Rattle.key_items.specs.declared.item.Item.{Item}
use Rattle.gtid_sets.specs.Sets.{Gtids}
use Rattle.group_rules.specs.Rows.{changed_row}
use Rattle.row_store.specs.Chains.{row_at, row_now, row_with}
use Rattle.row_store.specs.Inside.{chain_of, is_ready}
use Rattle.row_store.proofs.chains.put_all.Given as goal

abbrev pub invariant-loop-change : goal.invariant-loop-change
invariant-loop-change l = record {
  ready : list_all (λ x. is_ready l.gtid (map chain_of l.chains.entries) x.item) l.change-iterator.rest.items ≡ true;
  at : (i : Item) (e : Gtids) → row_with l.gtid l.change-iterator.rest.items e i (row_at (map chain_of l.chains.entries) i e) ≡ row_with l.gtid l.fn.changes e i (row_at (map chain_of l.initial.chains.entries) i e);
  now : (i : Item) → changed_row i (row_now (map chain_of l.chains.entries) i) l.change-iterator.rest.items ≡ changed_row i (row_now (map chain_of l.initial.chains.entries) i) l.fn.changes;
}
