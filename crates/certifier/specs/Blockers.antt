-- The writer that stands in the way of a transaction, item by item.
use Rattle.std.specs.Prelude.{Option, Some, None, if◌then◌else◌, nat_lt}
use Rattle.gtid_sets.specs.Sets.{Gtids, has}
use Rattle.key_items.specs.declared.item.KeptItem.{KeptItem}
use Rattle.certifier.specs.declared.writer.Writer.{Writer}

abbrev pub writer_of : KeptItem → Writer
writer_of k = record { gtid = k.gtid; place = k.place }

-- a writer that the snapshot lacks
abbrev pub unseen : Gtids → Option Writer → Option Writer
unseen s None = None
unseen s (Some w) = if has s w.gtid then None else Some w

-- of two writers the one at the greater place, and where they tie the second
abbrev pub later_writer : Option Writer → Option Writer → Option Writer
later_writer None o = o
later_writer (Some a) None = Some a
later_writer (Some a) (Some b) = if nat_lt b.place a.place then Some a else Some b
