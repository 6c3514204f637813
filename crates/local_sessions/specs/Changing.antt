-- The changes of a transaction: each of an item whose table and key have the lengths that they may have.
use Rattle.std.specs.Prelude.{ℕ, Option, Some, None, List}
use Rattle.std.specs.List.{AllByRecursion}
use Rattle.key_items.specs.Spelling.{IsItem}
use Rattle.key_items.specs.declared.change.Change.{Change}
use Rattle.key_items.specs.declared.change.ChangeKind.{ChangeKind}
use Rattle.group_rules.specs.Rows.{row_after}

abbrev pub IsOfItem : Change → Type 0
IsOfItem c = IsItem c.item

abbrev pub AreOfItems : List Change → Type 0
AreOfItems cs = AllByRecursion IsOfItem cs

-- what the last change of a row left, else the row
abbrev pub row_or : Option ChangeKind → Option (List ℕ) → Option (List ℕ)
row_or None r = r
row_or (Some k) r = row_after k
