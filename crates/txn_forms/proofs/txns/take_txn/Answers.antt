use Rattle.byte_forms.proofs.ListLemmas.{list_few}
use Rattle.key_items.specs.Spelling.{next_item_after}
use Rattle.txn_forms.proofs.txns.take_txn.Goals as goal

pub invariant_of-take_list : goal.invariant_of-take_list
invariant_of-take_list c = record { few = list_few 0 next_item_after c.read_bytes.new.from.left c.take_write_set.new.from.left c.in_ok-items.items c.in_ok-items.ensures.ok.value }
