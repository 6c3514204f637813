-- Items: when two are the same, their order, and lists of them that ascend.
use Rattle.std.specs.Prelude.{Bool, true, ◌&&◌, List, [], ◌∷◌, IsTrue, if◌then◌else◌}
use Rattle.std.specs.List.{list_any}
use Rattle.gr_ids.specs.Names.{bytes_eq, bytes_lt}
pub use Rattle.key_items.specs.declared.item.Item.{Item}

abbrev pub item_eq : Item → Item → Bool
item_eq a b = bytes_eq a.table b.table && bytes_eq a.key b.key

-- by table, then key, as bytes
abbrev pub item_lt : Item → Item → Bool
item_lt a b = if bytes_eq a.table b.table then bytes_lt a.key b.key else bytes_lt a.table b.table

abbrev pub has_item : List Item → Item → Bool
has_item xs i = list_any (item_eq i) xs

-- an item that two lists have in common
abbrev pub share : List Item → List Item → Bool
share xs ys = list_any (has_item ys) xs

-- each item is above the one before it
abbrev pub ascend : List Item → Bool
ascend [] = true
ascend (x ∷ []) = true
ascend (x ∷ y ∷ ys) = item_lt x y && ascend (y ∷ ys)

abbrev pub Ascend : List Item → Type 0
Ascend xs = IsTrue (ascend xs)

-- an item put into an ascending list, once
abbrev pub with_item : List Item → Item → List Item
with_item [] i = i ∷ []
with_item (x ∷ xs) i = if item_lt i x then i ∷ x ∷ xs else (if item_eq i x then x ∷ xs else x ∷ with_item xs i)
