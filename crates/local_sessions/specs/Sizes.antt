-- How many bytes a transaction's body has.
use Rattle.std.specs.Prelude.{ℕ, ◌+◌, Bool, false, List, [], ◌∷◌, length, if◌then◌else◌}
use Rattle.gr_ids.specs.Names.{bytes_eq}
use Rattle.gtid_sets.specs.Sets.{Gtids}
use Rattle.key_items.specs.declared.item.Item.{Item}
use Rattle.key_items.specs.declared.change.Change.{Change}
use Rattle.key_items.specs.declared.change.ChangeKind.{ChangeKind}
use Rattle.key_items.specs.declared.change.ChangeKind.TheVariants.{Insert as Inserts, Update as Updates, Delete as Deletes}

-- the first of these runs is of this source
abbrev pub goes_on : List ℕ → Gtids → Bool
goes_on u [] = false
goes_on u (r ∷ rs) = bytes_eq u r.source

-- two numbers a run, and where another source begins, its bytes and the count of its runs
abbrev pub runs_size : Gtids → ℕ
runs_size [] = 0
runs_size (r ∷ rs) = (if goes_on r.source rs then 16 else 36) + runs_size rs

-- the table and the key, each behind its length
abbrev pub item_size : Item → ℕ
item_size i = 2 + length i.table + length i.key

abbrev pub items_size : List Item → ℕ
items_size [] = 0
items_size (i ∷ is) = item_size i + items_size is

abbrev pub kind_size : ChangeKind → ℕ
kind_size (Inserts row) = 4 + length row
kind_size (Updates row) = 4 + length row
kind_size Deletes = 0

-- the index of the item, the kind, and the row behind its length
abbrev pub changes_size : List Change → ℕ
changes_size [] = 0
changes_size (c ∷ cs) = 5 + kind_size c.what + changes_size cs
