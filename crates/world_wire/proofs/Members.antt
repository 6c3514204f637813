-- What a list of indexes has, and that it rises, after a filter, one more, and a drop at the front; a test of a list in which one changed.
use Rattle.std.proofs.Common.{◌≡◌, ◌⊎◌, inl, inr, ℕ, zero, suc, Bool, true, false, ◌==◌, nat_lt, Some, None, List, [], ◌∷◌, ◌++◌, refl, sym, ap, ◌∙◌, length, arith}
use Rattle.std.specs.Prelude.{slice_set}
use Rattle.std.specs.List.{filter, list_all, list_any, remove, slice_get}
use Rattle.std.proofs.lemmas.Bool.{and_from, and_parts, or_cases, or_left, or_right, eqb-true, eq-eqb, true≢false, false≢true}
use Rattle.std.proofs.lemmas.List.Folds.{list_any-append, list_all-append}
use Rattle.group_rules.specs.Script.{Letter}
use Rattle.world_wire.specs.Lanes.{dropped, has_index, opens, rises}

-- ---- a filter

pub all_kept : (q p : ℕ → Bool) (is : List ℕ) → list_all q is ≡ true → list_all q (filter p is) ≡ true
all_kept q p [] h = refl
all_kept q p (i ∷ is) h = go (p i) refl (all_kept q p is (and_parts (q i) (list_all q is) h).1)
  where
    go : (b : Bool) → p i ≡ b → list_all q (filter p is) ≡ true → list_all q (filter p (i ∷ is)) ≡ true
    go true f r = rw f (and_from _ _ (and_parts (q i) (list_all q is) h).0 r)
    go false f r = rw f r

pub all_pass : (p : ℕ → Bool) (is : List ℕ) → list_all p (filter p is) ≡ true
all_pass p [] = refl
all_pass p (i ∷ is) = go (p i) refl (all_pass p is)
  where
    go : (b : Bool) → p i ≡ b → list_all p (filter p is) ≡ true → list_all p (filter p (i ∷ is)) ≡ true
    go true f r = rw f (and_from _ _ f r)
    go false f r = rw f r

pub filter_rises : (p : ℕ → Bool) (is : List ℕ) → rises is ≡ true → rises (filter p is) ≡ true
filter_rises p [] h = refl
filter_rises p (i ∷ is) h = go (p i) refl (filter_rises p is (and_parts (list_all (λ j. nat_lt i j) is) (rises is) h).1)
  where
    go : (b : Bool) → p i ≡ b → rises (filter p is) ≡ true → rises (filter p (i ∷ is)) ≡ true
    go true f r = rw f (and_from _ _ (all_kept (λ j. nat_lt i j) p is (and_parts (list_all (λ j. nat_lt i j) is) (rises is) h).0) r)
    go false f r = rw f r

pub filter_has : (p : ℕ → Bool) (is : List ℕ) (i : ℕ) → p i ≡ true → has_index is i ≡ true → has_index (filter p is) i ≡ true
filter_has p [] i g h = h
filter_has p (j ∷ is) i g h = go (p j) refl (or_cases (j == i) (has_index is i) h) (filter_has p is i g)
  where
    go : (b : Bool) → p j ≡ b → ((j == i) ≡ true) ⊎ (has_index is i ≡ true) → (has_index is i ≡ true → has_index (filter p is) i ≡ true) → has_index (filter p (j ∷ is)) i ≡ true
    go true f (inl e) k = rw f (or_left _ _ e)
    go true f (inr r) k = rw f (or_right _ _ (k r))
    go false f (inl e) k = absurd (true≢false (sym g ∙ ap p (sym (eqb-true j i e)) ∙ f))
    go false f (inr r) k = rw f (k r)

-- ---- one more behind

pub push_has : (is : List ℕ) (n i : ℕ) → has_index is i ≡ true → has_index (is ++ n ∷ []) i ≡ true
push_has is n i h = list_any-append (λ j. j == i) is (n ∷ []) ∙ or_left _ _ h

pub push_has_it : (is : List ℕ) (n : ℕ) → has_index (is ++ n ∷ []) n ≡ true
push_has_it is n = list_any-append (λ j. j == n) is (n ∷ []) ∙ or_right _ _ (or_left _ _ (eq-eqb n n refl))

pub push_rises : (is : List ℕ) (n : ℕ) → list_all (λ j. nat_lt j n) is ≡ true → rises is ≡ true → rises (is ++ n ∷ []) ≡ true
push_rises [] n a r = refl
push_rises (i ∷ is) n a r =
    let below = and_parts (nat_lt i n) (list_all (λ j. nat_lt j n) is) a in
    let parts = and_parts (list_all (λ j. nat_lt i j) is) (rises is) r in
    and_from _ _ (list_all-append (λ j. nat_lt i j) is (n ∷ []) ∙ and_from _ _ parts.0 (and_from _ _ below.0 refl)) (push_rises is n below.1 parts.1)

-- ---- a drop at the front

pub dropped_rises : (xs : List Letter) (is : List ℕ) → rises is ≡ true → rises (dropped xs is) ≡ true
dropped_rises xs [] h = refl
dropped_rises xs (i ∷ is) h = go (opens (slice_get xs i)) refl (dropped_rises xs is (and_parts (list_all (λ j. nat_lt i j) is) (rises is) h).1)
  where
    go : (b : Bool) → opens (slice_get xs i) ≡ b → rises (dropped xs is) ≡ true → rises (dropped xs (i ∷ is)) ≡ true
    go true f r = rw (f, dropped) h
    go false f r = rw (f, dropped) r

pub dropped_has : (xs : List Letter) (is : List ℕ) (i : ℕ) → opens (slice_get xs i) ≡ true → has_index is i ≡ true → has_index (dropped xs is) i ≡ true
dropped_has xs [] i g h = h
dropped_has xs (j ∷ is) i g h = go (opens (slice_get xs j)) refl (or_cases (j == i) (has_index is i) h) (dropped_has xs is i g)
  where
    go : (b : Bool) → opens (slice_get xs j) ≡ b → ((j == i) ≡ true) ⊎ (has_index is i ≡ true) → (has_index is i ≡ true → has_index (dropped xs is) i ≡ true)
        → has_index (dropped xs (j ∷ is)) i ≡ true
    go true f e k = rw (f, dropped) h
    go false f (inl e) k = absurd (true≢false (sym g ∙ ap (λ n. opens (slice_get xs n)) (sym (eqb-true j i e)) ∙ f))
    go false f (inr r) k = rw (f, dropped) (k r)

-- ---- one changed

pub all_at : {A : Type 0} (p : A → Bool) (xs : List A) (at : ℕ) (x : A) → slice_get xs at ≡ Some x → list_all p xs ≡ true → p x ≡ true
all_at p [] at x g h = absurd (let e : None ≡ Some x = g in cc)
all_at p (y ∷ ys) zero x g h = let e : y ≡ x = cc in ap p (sym e) ∙ (and_parts (p y) (list_all p ys) h).0
all_at p (y ∷ ys) (suc at) x g h = all_at p ys at x g (and_parts (p y) (list_all p ys) h).1

pub all_set : {A : Type 0} (p : A → Bool) (xs : List A) (at : ℕ) (x : A) → p x ≡ true → list_all p xs ≡ true → list_all p (slice_set xs at x) ≡ true
all_set p [] at x g h = refl
all_set p (y ∷ ys) zero x g h = and_from _ _ g (and_parts (p y) (list_all p ys) h).1
all_set p (y ∷ ys) (suc at) x g h = let parts = and_parts (p y) (list_all p ys) h in and_from _ _ parts.0 (all_set p ys at x g parts.1)

pub any_set : {A : Type 0} (p : A → Bool) (xs : List A) (at : ℕ) (x y : A) → slice_get xs at ≡ Some x → (p x ≡ true → p y ≡ true) → list_any p xs ≡ true → list_any p (slice_set xs at y) ≡ true
any_set p [] at x y g f h = h
any_set p (z ∷ zs) zero x y g f h = go (or_cases (p z) (list_any p zs) h)
  where
    go : (p z ≡ true) ⊎ (list_any p zs ≡ true) → list_any p (slice_set (z ∷ zs) zero y) ≡ true
    go (inl e) = let same : z ≡ x = cc in or_left _ _ (f (ap p (sym same) ∙ e))
    go (inr r) = or_right _ _ r
any_set p (z ∷ zs) (suc at) x y g f h = go (or_cases (p z) (list_any p zs) h) (any_set p zs at x y g f)
  where
    go : (p z ≡ true) ⊎ (list_any p zs ≡ true) → (list_any p zs ≡ true → list_any p (slice_set zs at y) ≡ true) → list_any p (slice_set (z ∷ zs) (suc at) y) ≡ true
    go (inl e) k = or_left _ _ e
    go (inr r) k = or_right _ _ (k r)

pub any_there : {A : Type 0} (p : A → Bool) (xs : List A) (at : ℕ) (x y : A) → slice_get xs at ≡ Some x → p y ≡ true → list_any p (slice_set xs at y) ≡ true
any_there p [] at x y g h = absurd (let e : None ≡ Some x = g in cc)
any_there p (z ∷ zs) zero x y g h = or_left _ _ h
any_there p (z ∷ zs) (suc at) x y g h = or_right _ _ (any_there p zs at x y g h)

-- ---- one more letter

pub get_push : {A : Type 0} (xs : List A) (x y : A) (k : ℕ) → slice_get (xs ++ x ∷ []) k ≡ Some y → (slice_get xs k ≡ Some y) ⊎ ((k ≡ length xs) × (x ≡ y))
get_push [] x y zero g = let e : x ≡ y = cc in inr (refl, e)
get_push [] x y (suc k) g = absurd (let e : None ≡ Some y = g in cc)
get_push (z ∷ zs) x y zero g = inl g
get_push (z ∷ zs) x y (suc k) g = go (get_push zs x y k g)
  where
    go : (slice_get zs k ≡ Some y) ⊎ ((k ≡ length zs) × (x ≡ y)) → (slice_get (z ∷ zs) (suc k) ≡ Some y) ⊎ ((suc k ≡ length (z ∷ zs)) × (x ≡ y))
    go (inl e) = inl e
    go (inr e) = inr (ap suc e.0, e.1)

pub get_last : {A : Type 0} (xs : List A) (x : A) (k : ℕ) → k ≡ length xs → slice_get (xs ++ x ∷ []) k ≡ Some x
get_last [] x zero e = refl
get_last [] x (suc k) e = absurd (omega (arith, e))
get_last (z ∷ zs) x zero e = absurd (omega (arith, e))
get_last (z ∷ zs) x (suc k) e = get_last zs x k (omega (arith, e))

-- ---- one removed

pub all_removed : {A : Type 0} (p : A → Bool) (xs : List A) (at : ℕ) → list_all p xs ≡ true → list_all p (remove xs at) ≡ true
all_removed p [] zero h = refl
all_removed p [] (suc at) h = refl
all_removed p (y ∷ ys) zero h = (and_parts (p y) (list_all p ys) h).1
all_removed p (y ∷ ys) (suc at) h = let parts = and_parts (p y) (list_all p ys) h in and_from _ _ parts.0 (all_removed p ys at parts.1)

pub any_removed : {A : Type 0} (p : A → Bool) (xs : List A) (at : ℕ) (x : A) → slice_get xs at ≡ Some x → p x ≡ false → list_any p xs ≡ true → list_any p (remove xs at) ≡ true
any_removed p [] at x g n h = absurd (false≢true h)
any_removed p (y ∷ ys) zero x g n h = go (or_cases (p y) (list_any p ys) h)
  where
    go : (p y ≡ true) ⊎ (list_any p ys ≡ true) → list_any p ys ≡ true
    go (inl e) = let same : y ≡ x = cc in absurd (true≢false (sym e ∙ (ap p same ∙ n)))
    go (inr r) = r
any_removed p (y ∷ ys) (suc at) x g n h = go (or_cases (p y) (list_any p ys) h) (any_removed p ys at x g n)
  where
    go : (p y ≡ true) ⊎ (list_any p ys ≡ true) → (list_any p ys ≡ true → list_any p (remove ys at) ≡ true) → list_any p (remove (y ∷ ys) (suc at)) ≡ true
    go (inl e) k = or_left _ _ e
    go (inr r) k = or_right _ _ (k r)
