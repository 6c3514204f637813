-- What a look lists.
use Rattle.key_items.specs.declared.item.KeptItem.{KeptItem}
use Rattle.group_rules.specs.declared.said.ItemWriter.{ItemWriter}

-- an item with its last writer
abbrev pub item_writer : KeptItem → ItemWriter
item_writer k = record { item = k.item; gtid = k.gtid }
