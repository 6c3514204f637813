-- The index of an item in a write set.
use Rattle.std.proofs.Common.{◌≡◌, ℕ, zero, suc, ◌<◌, ◌≤◌, Bool, true, false, List, [], ◌∷◌, length, get_or, slice_get, Some, refl, sym, ap, subst, ◌∙◌, arith}
use Rattle.std.proofs.lemmas.Option.{slice_get_within, get_or_from_slice_get}
use Rattle.byte_forms.specs.Reads.{Got, Fault}
use Rattle.key_items.specs.declared.item.Item.{Item}
use Rattle.key_items.specs.Items.{item_eq, item_lt, ascend}
use Rattle.key_items.specs.declared.change.Change.{Change}
use Rattle.key_items.specs.declared.change.ChangeKind.{ChangeKind}
use Rattle.key_items.proofs.Order.{Stands, Below, Same, Above, stands, item_eq_itself}
use Rattle.key_items.proofs.Sets.{ascend_tail, head_below}
use Rattle.txn_forms.specs.Changes.{index_of, change_at}

-- an item above another one isn't the same
other : (x i : Item) → item_lt x i ≡ true → item_eq i x ≡ false
other x i h = go (stands x i)
  where
    go : Stands x i → item_eq i x ≡ false
    go (Below a b c d) = d
    go (Same a b c d) = absurd cc
    go (Above a b c d) = absurd cc

pub index_at : (xs : List Item) (i : Item) (at : ℕ) → ascend xs ≡ true → slice_get xs at ≡ Some i → index_of i xs ≡ at
index_at [] i at h e = absurd cc
index_at (x ∷ xs) i zero h e =
    let same : x ≡ i = cc in
    let ties : item_eq i x ≡ true = subst (λ (j : Item). item_eq i j ≡ true) (sym same) (item_eq_itself i) in
    rw (index_of, ties) refl
index_at (x ∷ xs) i (suc at) h e =
    let within = slice_get_within xs at i e in
    let is : get_or xs at i ≡ i = get_or_from_slice_get xs at i i e in
    let above : item_lt x i ≡ true = subst (λ (j : Item). item_lt x j ≡ true) is (head_below x xs at i h within) in
    let differs = other x i above in
    rw (index_of, differs) (ap suc (index_at xs i at (ascend_tail x xs h) e))

pub change_there : (xs : List Item) (i : Item) (n : ℕ) (what : ChangeKind) (bytes : List ℕ) → slice_get xs n ≡ Some i → change_at xs n what bytes ≡ Got (record { item = i; what = what }) bytes
change_there [] i n what bytes e = absurd cc
change_there (x ∷ xs) i zero what bytes e = (let same : x ≡ i = cc in ap (λ (j : Item). (let c : Change = record { item = j; what = what } in Got c bytes)) same)
change_there (x ∷ xs) i (suc n) what bytes e = change_there xs i n what bytes e

pub change_past : (xs : List Item) (n : ℕ) (what : ChangeKind) (bytes : List ℕ) → length xs ≤ n → change_at xs n what bytes ≡ Fault (length bytes)
change_past [] n what bytes h = refl
change_past (x ∷ xs) zero what bytes h = absurd (omega arith)
change_past (x ∷ xs) (suc n) what bytes h = change_past xs n what bytes (omega arith)
