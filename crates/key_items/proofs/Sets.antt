-- Ascending lists of items: where an item stands in one, and what an insertion leaves.
use Rattle.std.proofs.Common.{◌≡◌, ℕ, zero, suc, ◌+◌, ◌<◌, ◌≤◌, ◌&&◌, Bool, true, false, not, List, [], ◌∷◌, length, get_or, slice_get, refl, sym, ap, ◌∙◌, subst, arith, cond, add-one, Less, Equal, Greater, Result, Ok, Err, Some}
use Rattle.std.specs.List.{insert, list_any, HoldsAt}
use Rattle.std.specs.List.Sorted.{IsNonDecreasingBy, IsPartitionPoint, IsSearchInRange, IsBinarySearchResult}
use Rattle.std.specs.Result.{is_ok}
use Rattle.std.proofs.lemmas.Option.{slice_get-get_or}
use Rattle.std.specs.Ordering.{ordering_index, ordering_reverse, is_lt, is_eq}
use Rattle.std.proofs.lemmas.List.Sorted.{searchable_from_sorted}
use Rattle.key_items.specs.Items.{Item, item_eq, item_lt, has_item, share, ascend, with_item}
use Rattle.key_items.proofs.Order.{Stands, Below, Same, Above, stands, item_cmp, item_cmp_total, item_lt_cmp, item_eq_cmp, item_lt_trans, item_eq_same}

both : (s t : Bool) → (s && t) ≡ true → (s ≡ true) × (t ≡ true)
both true t e = (refl, e)
both false t e = absurd cc

pub ascend_tail : (x : Item) (xs : List Item) → ascend (x ∷ xs) ≡ true → ascend xs ≡ true
ascend_tail x [] h = refl
ascend_tail x (y ∷ ys) h = (both (item_lt x y) (ascend (y ∷ ys)) h).1

-- the first of an ascending list is below each other one
pub head_below : (x : Item) (xs : List Item) (k : ℕ) (d : Item) → ascend (x ∷ xs) ≡ true → k < length xs → item_lt x (get_or xs k d) ≡ true
head_below x [] k d h l = absurd (omega arith)
head_below x (y ∷ ys) zero d h l = (both (item_lt x y) (ascend (y ∷ ys)) h).0
head_below x (y ∷ ys) (suc k) d h l =
    let p = both (item_lt x y) (ascend (y ∷ ys)) h in
    item_lt_trans x y (get_or ys k d) p.0 (head_below y ys k d p.1 (omega arith))

-- what an insertion leaves ascends
pub ascend_with : (x : Item) (xs : List Item) (i : Item) → ascend (x ∷ xs) ≡ true → item_lt x i ≡ true → ascend (x ∷ with_item xs i) ≡ true
ascend_with x [] i h l = rw l refl
ascend_with x (y ∷ ys) i h l = go (stands i y) (both (item_lt x y) (ascend (y ∷ ys)) h) (ascend_with y ys i (ascend_tail x (y ∷ ys) h))
  where
    go : Stands i y → (item_lt x y ≡ true) × (ascend (y ∷ ys) ≡ true) → (item_lt y i ≡ true → ascend (y ∷ with_item ys i) ≡ true) → ascend (x ∷ with_item (y ∷ ys) i) ≡ true
    go (Below a b c d) p r = rw (a, l, a, p.1) refl
    go (Same a b c d) p r = rw (a, b) h
    go (Above a b c d) p r = rw (a, b, p.0, r c) refl

pub ascend-with_item : (xs : List Item) (i : Item) → ascend xs ≡ true → ascend (with_item xs i) ≡ true
ascend-with_item [] i h = refl
ascend-with_item (x ∷ xs) i h = go (stands i x)
  where
    go : Stands i x → ascend (with_item (x ∷ xs) i) ≡ true
    go (Below a b c d) = rw (a, a, h) refl
    go (Same a b c d) = rw (a, b) h
    go (Above a b c d) = rw (a, b) (ascend_with x xs i h c)

-- ---- an item that is there

pub found_in : (xs : List Item) (i d : Item) (k : ℕ) → ascend xs ≡ true → k < length xs → get_or xs k d ≡ i → (with_item xs i ≡ xs) × (has_item xs i ≡ true)
found_in [] i d k h l e = absurd (omega arith)
found_in (x ∷ xs) i d zero h l e = go (stands i x) e
  where
    go : Stands i x → x ≡ i → (with_item (x ∷ xs) i ≡ x ∷ xs) × (has_item (x ∷ xs) i ≡ true)
    go (Below a b c f) q = absurd (let z : item_lt x i ≡ true = subst (λ j. item_lt j i ≡ true) (sym q) (subst (λ j. item_lt i j ≡ true) q a) in cc)
    go (Same a b c f) q = (rw (a, b) refl, rw b refl)
    go (Above a b c f) q = absurd (let z : item_lt i x ≡ true = subst (λ j. item_lt j x ≡ true) q (subst (λ j. item_lt x j ≡ true) (sym q) c) in cc)
found_in (x ∷ xs) i d (suc k) h l e = go (stands i x) (found_in xs i d k (ascend_tail x xs h) (omega arith) e) (subst (λ j. item_lt x j ≡ true) e (head_below x xs k d h (omega arith)))
  where
    go : Stands i x → (with_item xs i ≡ xs) × (has_item xs i ≡ true) → item_lt x i ≡ true → (with_item (x ∷ xs) i ≡ x ∷ xs) × (has_item (x ∷ xs) i ≡ true)
    go (Below a b c f) r m = absurd cc
    go (Same a b c f) r m = absurd cc
    go (Above a b c f) r m = (rw (a, b) (ap (λ ys. x ∷ ys) r.0), rw b r.1)

-- ---- an item that goes in between

pub missing_in : (xs : List Item) (i : Item) (at : ℕ) → at ≤ length xs
    → ((k : ℕ) (d : Item) → k < at → item_lt (get_or xs k d) i ≡ true)
    → ((k : ℕ) (d : Item) → at ≤ k → k < length xs → item_lt i (get_or xs k d) ≡ true)
    → (with_item xs i ≡ insert xs at i) × (has_item xs i ≡ false)
missing_in [] i at l f g = let z : at ≡ 0 = omega arith in (rw z refl, refl)
missing_in (x ∷ xs) i zero l f g = (rw (g 0 i (omega arith) (omega arith)) refl, none (x ∷ xs) (λ k d m. g k d (omega arith) m))
  where
    none : (ys : List Item) → ((k : ℕ) (d : Item) → k < length ys → item_lt i (get_or ys k d) ≡ true) → has_item ys i ≡ false
    none [] p = refl
    none (y ∷ ys) p = go (stands i y) (none ys (λ k d m. p (suc k) d (omega arith)))
      where
        go : Stands i y → has_item ys i ≡ false → has_item (y ∷ ys) i ≡ false
        go (Below a b c e) r = rw b r
        go (Same a b c e) r = absurd (let z : item_lt i y ≡ true = p 0 i (omega arith) in cc)
        go (Above a b c e) r = rw b r
missing_in (x ∷ xs) i (suc at) l f g = go (stands i x) (missing_in xs i at (omega arith) (λ k d m. f (suc k) d (omega arith)) (λ k d m n. g (suc k) d (omega arith) (omega arith)))
  where
    go : Stands i x → (with_item xs i ≡ insert xs at i) × (has_item xs i ≡ false) → (with_item (x ∷ xs) i ≡ insert (x ∷ xs) (suc at) i) × (has_item (x ∷ xs) i ≡ false)
    go (Below a b c e) r = absurd (let z : item_lt x i ≡ true = f 0 i (omega arith) in cc)
    go (Same a b c e) r = absurd (let z : item_lt x i ≡ true = f 0 i (omega arith) in cc)
    go (Above a b c e) r = (rw (a, b) (ap (λ ys. x ∷ ys) r.0), rw b r.1)

-- ---- what a search found

adjacent : (xs : List Item) → ascend xs ≡ true → (k : ℕ) (d : Item) → suc k < length xs → item_lt (get_or xs k d) (get_or xs (suc k) d) ≡ true
adjacent [] h k d l = absurd (omega arith)
adjacent (x ∷ xs) h zero d l = head_below x xs 0 d h (omega arith)
adjacent (x ∷ xs) h (suc k) d l = adjacent xs (ascend_tail x xs h) k d (omega arith)

turned : (a b : Item) → item_lt a b ≡ true → is_lt (item_cmp b a) ≡ false
turned a b h = sym (item_lt_cmp b a) ∙ go (stands a b)
  where
    go : Stands a b → item_lt b a ≡ false
    go (Below p q r e) = r
    go (Same p q r e) = r
    go (Above p q r e) = absurd cc

pub search_premise : (xs : List Item) (i : Item) → ascend xs ≡ true → IsNonDecreasingBy (λ y. ordering_index (item_cmp y i)) xs
search_premise xs i h = searchable_from_sorted item_cmp_total (λ y. y) xs i (λ k d l m. rw add-one (turned (get_or xs k d) (get_or xs (suc k) d) (adjacent xs h k d (omega arith))))

pub is_found : (xs : List Item) (i : Item) (k : ℕ) → ascend xs ≡ true → k < length xs → HoldsAt (λ y. item_cmp y i ≡ Equal) xs k → (with_item xs i ≡ xs) × (has_item xs i ≡ true)
is_found xs i k h l e = found_in xs i i k h l (item_eq_same (get_or xs k i) i (item_eq_cmp (get_or xs k i) i ∙ ap is_eq (e i)))

pub found_at : (xs : List Item) (i : Item) (k : ℕ) → k < length xs → HoldsAt (λ y. item_cmp y i ≡ Equal) xs k → slice_get xs k ≡ Some i
found_at xs i k l e = slice_get-get_or xs k i l ∙ ap (λ (j : Item). Some j) (item_eq_same (get_or xs k i) i (item_eq_cmp (get_or xs k i) i ∙ ap is_eq (e i)))

pub is_missing : (xs : List Item) (i : Item) (at : ℕ) → ascend xs ≡ true → at ≤ length xs
    → (IsNonDecreasingBy (λ y. ordering_index (item_cmp y i)) xs → IsPartitionPoint (λ y. item_cmp y i ≡ Less) (λ y. item_cmp y i ≡ Greater) xs at)
    → (with_item xs i ≡ insert xs at i) × (has_item xs i ≡ false)
is_missing xs i at h l p =
    let q = p (search_premise xs i h) in
    missing_in xs i at l (λ k d m. below k d (q.0 k d (omega arith) m)) (λ k d m n. above k d (q.1 k d m n))
  where
    below : (k : ℕ) (d : Item) → item_cmp (get_or xs k d) i ≡ Less → item_lt (get_or xs k d) i ≡ true
    below k d e = item_lt_cmp (get_or xs k d) i ∙ ap is_lt e

    above : (k : ℕ) (d : Item) → item_cmp (get_or xs k d) i ≡ Greater → item_lt i (get_or xs k d) ≡ true
    above k d e = item_lt_cmp i (get_or xs k d) ∙ ap is_lt (item_cmp_total.antisymm i (get_or xs k d) ∙ ap ordering_reverse e)

-- whether a search found it
pub searched : (xs : List Item) (i : Item) (r : Result ℕ ℕ) → ascend xs ≡ true → IsSearchInRange r (length xs) → IsBinarySearchResult (λ y. item_cmp y i) xs r → is_ok r ≡ has_item xs i
searched xs i (Ok k) h l p = sym (is_found xs i k h l p).1
searched xs i (Err at) h l p = sym (is_missing xs i at h l p).1

-- ---- an item in common

all_above : (x : Item) (ys : List Item) → ((k : ℕ) (d : Item) → k < length ys → item_lt x (get_or ys k d) ≡ true) → has_item ys x ≡ false
all_above x [] p = refl
all_above x (y ∷ ys) p = go (stands x y) (all_above x ys (λ k d l. p (suc k) d (omega arith))) (p 0 x (omega arith))
  where
    go : Stands x y → has_item ys x ≡ false → item_lt x y ≡ true → has_item (y ∷ ys) x ≡ false
    go (Below a b c e) r q = rw b r
    go (Same a b c e) r q = absurd cc
    go (Above a b c e) r q = absurd cc

-- an item below the first of the other list isn't in it
pub share_past_left : (x y : Item) (xs ys : List Item) → item_lt x y ≡ true → ascend (y ∷ ys) ≡ true → share xs (y ∷ ys) ≡ share (x ∷ xs) (y ∷ ys)
share_past_left x y xs ys l h = let e : has_item (y ∷ ys) x ≡ false = all_above x (y ∷ ys) above in rw e refl
  where
    above : (k : ℕ) (d : Item) → k < length (y ∷ ys) → item_lt x (get_or (y ∷ ys) k d) ≡ true
    above zero d m = l
    above (suc k) d m = item_lt_trans x y (get_or ys k d) l (head_below y ys k d h (omega arith))

pub share_past_right : (x y : Item) (xs ys : List Item) → item_lt y x ≡ true → ascend (x ∷ xs) ≡ true → share (x ∷ xs) ys ≡ share (x ∷ xs) (y ∷ ys)
share_past_right x y xs ys l h = alike (x ∷ xs) above
  where
    above : (k : ℕ) (d : Item) → k < length (x ∷ xs) → item_lt y (get_or (x ∷ xs) k d) ≡ true
    above zero d m = l
    above (suc k) d m = item_lt_trans y x (get_or xs k d) l (head_below x xs k d h (omega arith))

    alike : (zs : List Item) → ((k : ℕ) (d : Item) → k < length zs → item_lt y (get_or zs k d) ≡ true) → share zs ys ≡ share zs (y ∷ ys)
    alike [] p = refl
    alike (z ∷ zs) p = go (stands y z) (alike zs (λ k d m. p (suc k) d (omega arith))) (p 0 y (omega arith))
      where
        go : Stands y z → share zs ys ≡ share zs (y ∷ ys) → item_lt y z ≡ true → share (z ∷ zs) ys ≡ share (z ∷ zs) (y ∷ ys)
        go (Below a b c e) r q = rw (e, r) refl
        go (Same a b c e) r q = absurd cc
        go (Above a b c e) r q = absurd cc

pub share_same : (x y : Item) (xs ys : List Item) → item_eq x y ≡ true → share (x ∷ xs) (y ∷ ys) ≡ true
share_same x y xs ys e = rw e refl

-- ---- what a comparison of the first items says

pub first_below : (a b xs ys : List Item) (x y : Item) → a ≡ x ∷ xs → b ≡ y ∷ ys → item_cmp x y ≡ Less → ascend a ≡ true → ascend b ≡ true → (ascend xs ≡ true) × (share xs b ≡ share a b)
first_below a b xs ys x y e f c h k =
    let l : item_lt x y ≡ true = item_lt_cmp x y ∙ ap is_lt c in
    let up : ascend (y ∷ ys) ≡ true = subst (λ zs. ascend zs ≡ true) f k in
    let same : share xs (y ∷ ys) ≡ share (x ∷ xs) (y ∷ ys) = share_past_left x y xs ys l up in
    (ascend_tail x xs (subst (λ zs. ascend zs ≡ true) e h), ap (share xs) f ∙ same ∙ cc)

pub first_above : (a b xs ys : List Item) (x y : Item) → a ≡ x ∷ xs → b ≡ y ∷ ys → item_cmp x y ≡ Greater → ascend a ≡ true → ascend b ≡ true → (ascend ys ≡ true) × (share a ys ≡ share a b)
first_above a b xs ys x y e f c h k =
    let l : item_lt y x ≡ true = item_lt_cmp y x ∙ ap is_lt (item_cmp_total.antisymm y x ∙ ap ordering_reverse c) in
    let up : ascend (x ∷ xs) ≡ true = subst (λ zs. ascend zs ≡ true) e h in
    let same : share (x ∷ xs) ys ≡ share (x ∷ xs) (y ∷ ys) = share_past_right x y xs ys l up in
    (ascend_tail y ys (subst (λ zs. ascend zs ≡ true) f k), ap (λ zs. share zs ys) e ∙ same ∙ cc)

pub first_same : (a b xs ys : List Item) (x y : Item) → a ≡ x ∷ xs → b ≡ y ∷ ys → item_cmp x y ≡ Equal → share a b ≡ true
first_same a b xs ys x y e f c =
    let same : share (x ∷ xs) (y ∷ ys) ≡ true = share_same x y xs ys (item_eq_cmp x y ∙ ap is_eq c) in
    ap (λ zs. share zs b) e ∙ ap (share (x ∷ xs)) f ∙ same

pub share_nothing : (a b : List Item) → length b ≡ 0 → share a b ≡ false
share_nothing [] b h = refl
share_nothing (x ∷ xs) [] h = share_nothing xs [] h
share_nothing (x ∷ xs) (y ∷ ys) h = absurd (omega arith)
