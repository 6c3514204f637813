use Rattle.key_items.proofs.ItemLemmas.{items_read, chain_ascends}
use Rattle.key_items.proofs.spelling.take_write_set.Goals as goal

pub from_ascending-requires : goal.from_ascending-requires
from_ascending-requires c = chain_ascends c.in_ok-items.items (items_read c.args.from.now.left c.take_list.new.from.left c.in_ok-items.items c.in_ok-items.ensures.ok.value)
