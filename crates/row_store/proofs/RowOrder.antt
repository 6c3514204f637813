-- The rows ascend, as the keys of the map do.
use Rattle.std.proofs.Common.{◌≡◌, Bool, true, false, Option, Some, None, ℕ, List, [], ◌∷◌, map, refl, sym, subst, ap, ◌∙◌}
use Rattle.std.specs.declared.cmp.Ordering.TheVariants.{Less}
use Rattle.std.specs.Ordering.{is_eq, is_lt}
use Rattle.std.specs.List.{AllByRecursion}
use Rattle.std.specs.List.Sorted.{IsStrictlySortedBy}
use Rattle.std.specs.Map.{keys_of}
use Rattle.key_items.specs.declared.item.Item.{Item}
use Rattle.key_items.specs.Items.{ascend, item_eq, item_lt}
use Rattle.key_items.proofs.Order.{item_cmp, item_eq_cmp, item_eq_same, item_lt_cmp}
use Rattle.row_store.specs.Chains.{last_row, rows_of, item_of, row_listed, row_now}
use Rattle.row_store.specs.Inside.{chain_of}
use Rattle.row_store.proofs.ChainReads.{Entries}

abbrev pub row_items : Entries → List Item
row_items es = map item_of (rows_of (map chain_of es))

-- an item below all keys stands before the rows
below_rows : (k : Item) (es : Entries) → AllByRecursion (λ y. item_cmp k y ≡ Less) (keys_of es) → ascend (row_items es) ≡ true → ascend (k ∷ row_items es) ≡ true
below_rows k [] b a = refl
below_rows k (e ∷ es) b a = go (last_row e.1.items) refl (below_rows k es b.1)
  where
    go : (o : Option (List ℕ)) → last_row e.1.items ≡ o → (ascend (row_items es) ≡ true → ascend (k ∷ row_items es) ≡ true) → ascend (k ∷ row_items (e ∷ es)) ≡ true
    go None f r = rw f (r (rw f at a))
    go (Some v) f r = let less : item_lt k e.0 ≡ true = item_lt_cmp k e.0 ∙ ap is_lt b.0 in rw (f, less) (rw f at a)

pub rows_ascend : (es : Entries) → IsStrictlySortedBy item_cmp (keys_of es) → ascend (row_items es) ≡ true
unfolding IsStrictlySortedBy
rows_ascend [] s = refl
rows_ascend (e ∷ es) s = go (last_row e.1.items) refl (rows_ascend es s.1)
  where
    go : (o : Option (List ℕ)) → last_row e.1.items ≡ o → ascend (row_items es) ≡ true → ascend (row_items (e ∷ es)) ≡ true
    go None f r = rw f r
    go (Some v) f r = rw f (below_rows e.0 es s.0 r)

-- ---- the rows by their items

-- an item below all keys has no row
unlisted : (i : Item) (es : Entries) → AllByRecursion (λ y. item_cmp i y ≡ Less) (keys_of es) → row_listed (rows_of (map chain_of es)) i ≡ None
unlisted i [] b = refl
unlisted i (e ∷ es) b = go (last_row e.1.items) refl (unlisted i es b.1)
  where
    other : item_eq i e.0 ≡ false
    other = item_eq_cmp i e.0 ∙ ap is_eq b.0

    go : (o : Option (List ℕ)) → last_row e.1.items ≡ o → row_listed (rows_of (map chain_of es)) i ≡ None → row_listed (rows_of (map chain_of (e ∷ es))) i ≡ None
    go None f r = rw f r
    go (Some v) f r = rw (f, other) r

pub rows_listed : (es : Entries) (i : Item) → IsStrictlySortedBy item_cmp (keys_of es) → row_listed (rows_of (map chain_of es)) i ≡ row_now (map chain_of es) i
unfolding IsStrictlySortedBy
rows_listed [] i s = refl
rows_listed (e ∷ es) i s = go (item_eq i e.0) refl (last_row e.1.items) refl (rows_listed es i s.1)
  where
    go : (b : Bool) → item_eq i e.0 ≡ b → (o : Option (List ℕ)) → last_row e.1.items ≡ o → row_listed (rows_of (map chain_of es)) i ≡ row_now (map chain_of es) i
        → row_listed (rows_of (map chain_of (e ∷ es))) i ≡ row_now (map chain_of (e ∷ es)) i
    go true q None f r = rw (q, f) (unlisted i es (subst (λ k. AllByRecursion (λ y. item_cmp k y ≡ Less) (keys_of es)) (sym (item_eq_same i e.0 q)) s.0))
    go true q (Some v) f r = rw (f, q) (sym f)
    go false q None f r = rw (f, q) r
    go false q (Some v) f r = rw (f, q) r
