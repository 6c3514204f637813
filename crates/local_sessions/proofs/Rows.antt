-- Rows and items of a list of changes, from its end.
use Rattle.std.proofs.Common.{◌≡◌, ℕ, Bool, true, false, Option, List, [], ◌∷◌, ◌++◌, refl, ap}
use Rattle.std.specs.Prelude.{if◌then◌else◌}
use Rattle.key_items.specs.declared.item.Item.{Item}
use Rattle.key_items.specs.declared.change.Change.{Change}
use Rattle.key_items.specs.Items.{item_eq, with_item}
use Rattle.group_rules.specs.Rows.{changed_row, row_after}
use Rattle.group_rules.specs.Calls.{items_of}

-- the last change of the item decides
pub changed_last : (i : Item) (r : Option (List ℕ)) (cs : List Change) (c : Change) → changed_row i r (cs ++ c ∷ []) ≡ (if item_eq c.item i then row_after c.what else changed_row i r cs)
changed_last i r [] c = go (item_eq c.item i) refl
  where
    go : (b : Bool) → item_eq c.item i ≡ b → changed_row i r (c ∷ []) ≡ (if item_eq c.item i then row_after c.what else r)
    go true f = rw (f, changed_row) refl
    go false f = rw (f, changed_row) refl
changed_last i r (x ∷ xs) c = go (item_eq x.item i) refl (changed_last i (row_after x.what) xs c) (changed_last i r xs c)
  where
    go : (b : Bool) → item_eq x.item i ≡ b → changed_row i (row_after x.what) (xs ++ c ∷ []) ≡ (if item_eq c.item i then row_after c.what else changed_row i (row_after x.what) xs)
        → changed_row i r (xs ++ c ∷ []) ≡ (if item_eq c.item i then row_after c.what else changed_row i r xs)
        → changed_row i r (x ∷ xs ++ c ∷ []) ≡ (if item_eq c.item i then row_after c.what else changed_row i r (x ∷ xs))
    go true f p q = rw (f, changed_row) p
    go false f p q = rw (f, changed_row) q

-- the items of these changes put to those of the ones behind
abbrev pub items_onto : List Change → List Item → List Item
items_onto [] is = is
items_onto (c ∷ cs) is = with_item (items_onto cs is) c.item

pub onto_last : (cs : List Change) (c : Change) (is : List Item) → items_onto (cs ++ c ∷ []) is ≡ items_onto cs (with_item is c.item)
onto_last [] c is = refl
onto_last (x ∷ xs) c is = ap (λ l. with_item l x.item) (onto_last xs c is)

pub onto_none : (cs : List Change) → items_onto cs [] ≡ items_of cs
onto_none [] = refl
onto_none (x ∷ xs) = ap (λ l. with_item l x.item) (onto_none xs)
