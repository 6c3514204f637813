-- Lemmas on `Mem`, `IsPast`, `newest`, and tests over a list.
use Rattle.std.proofs.Common.{◌≡◌, ◌⊎◌, inl, inr, ◌≤◌, List, [], ◌∷◌, length, Some, None, Bool, true, false, refl, sym, ◌∙◌, ap, subst, arith}
use Rattle.std.specs.List.{list_any, list_all}
use Rattle.std.proofs.lemmas.Bool.{false≢true, or_cases, or_left, or_right, and_parts}
use Rattle.group_laws.specs.Lists.{Mem, IsPast, AllPasts, newest}

pub any_mem : {A : Type 0} (test : A → Bool) (xs : List A) → list_any test xs ≡ true → (x : A) × Mem x xs × (test x ≡ true)
any_mem test [] h = absurd (false≢true h)
any_mem {A} test (y ∷ ys) h = go (or_cases (test y) (list_any test ys) h) (any_mem test ys)
  where
    go : ((test y ≡ true) ⊎ (list_any test ys ≡ true)) → (list_any test ys ≡ true → (x : A) × Mem x ys × (test x ≡ true)) → (x : A) × Mem x (y ∷ ys) × (test x ≡ true)
    go (inl e) rec = (y, inl refl, e)
    go (inr e) rec = let f = rec e in (f.0, inr f.1, f.2)

pub any_from : {A : Type 0} (test : A → Bool) (xs : List A) (x : A) → Mem x xs → test x ≡ true → list_any test xs ≡ true
any_from test [] x h e = absurd h
any_from test (y ∷ ys) x (inl p) e = or_left (test y) (list_any test ys) (ap test p ∙ e)
any_from test (y ∷ ys) x (inr h) e = or_right (test y) (list_any test ys) (any_from test ys x h e)

pub all_at : {A : Type 0} (test : A → Bool) (xs : List A) (x : A) → list_all test xs ≡ true → Mem x xs → test x ≡ true
all_at test [] x h m = absurd m
all_at test (y ∷ ys) x h (inl p) = ap test (sym p) ∙ (and_parts (test y) (list_all test ys) h).0
all_at test (y ∷ ys) x h (inr m) = all_at test ys x ((and_parts (test y) (list_all test ys) h).1) m

pub IsPast-self : {A : Type 0} (xs : List A) → IsPast xs xs
IsPast-self [] = refl
IsPast-self (x ∷ xs) = inl refl

pub IsPast-nil : {A : Type 0} (xs : List A) → IsPast [] xs
IsPast-nil [] = refl
IsPast-nil (x ∷ xs) = inr (IsPast-nil xs)

pub IsPast-tail : {A : Type 0} (x : A) (xs ys : List A) → IsPast (x ∷ xs) ys → IsPast xs ys
IsPast-tail x xs [] h = absurd (cc h)
IsPast-tail x xs (y ∷ ys) (inl e) = let t : xs ≡ ys = cc e in inr (subst (λ zs. IsPast zs ys) (sym t) (IsPast-self ys))
IsPast-tail x xs (y ∷ ys) (inr h) = inr (IsPast-tail x xs ys h)

pub IsPast-trans : {A : Type 0} (xs ys zs : List A) → IsPast xs ys → IsPast ys zs → IsPast xs zs
IsPast-trans xs ys [] h k = let e : ys ≡ [] = k in subst (λ us. IsPast xs us) e h
IsPast-trans xs ys (z ∷ zs) h (inl e) = subst (λ us. IsPast xs us) e h
IsPast-trans xs ys (z ∷ zs) h (inr k) = inr (IsPast-trans xs ys zs h k)

pub IsPast-length : {A : Type 0} (xs ys : List A) → IsPast xs ys → length xs ≤ length ys
IsPast-length xs [] h = rw h (omega arith)
IsPast-length xs (y ∷ ys) (inl e) = rw e (omega arith)
IsPast-length xs (y ∷ ys) (inr h) = let k = IsPast-length xs ys h in omega arith

pub IsPast-mem : {A : Type 0} (xs ys : List A) (x : A) → IsPast xs ys → Mem x xs → Mem x ys
IsPast-mem xs [] x h m = let e : xs ≡ [] = h in subst (λ us. Mem x us) e m
IsPast-mem xs (y ∷ ys) x (inl e) m = subst (λ us. Mem x us) e m
IsPast-mem xs (y ∷ ys) x (inr h) m = inr (IsPast-mem xs ys x h m)

-- of two pasts of one list, one is a past of the other
pub pasts_compare : {A : Type 0} (xs ys zs : List A) → IsPast xs zs → IsPast ys zs → (IsPast xs ys) ⊎ (IsPast ys xs)
pasts_compare xs ys [] h k = let e : ys ≡ xs = k ∙ sym h in inl (subst (λ us. IsPast xs us) (sym e) (IsPast-self xs))
pasts_compare xs ys (z ∷ zs) (inl e) k = inr (subst (λ us. IsPast ys us) (sym e) k)
pasts_compare xs ys (z ∷ zs) (inr h) (inl e) = inl (subst (λ us. IsPast xs us) (sym e) (inr h))
pasts_compare xs ys (z ∷ zs) (inr h) (inr k) = pasts_compare xs ys zs h k

-- a past that is longer than it was allowed to be holds the next element
pub past_before : {A : Type 0} (x : A) (xs ys zs : List A) → IsPast (x ∷ xs) zs → IsPast ys zs → (Mem x ys → ⊥) → IsPast ys xs
past_before x xs ys [] h k none_in = absurd (cc h)
past_before x xs ys (z ∷ zs) (inl e) (inl f) none_in =
    absurd (none_in (subst (λ us. Mem x us) (sym (f ∙ sym e)) (inl refl)))
past_before x xs ys (z ∷ zs) (inl e) (inr k) none_in = let t : zs ≡ xs = cc e in subst (λ us. IsPast ys us) t k
past_before x xs ys (z ∷ zs) (inr h) (inl f) none_in =
    absurd (none_in (subst (λ us. Mem x us) (sym f) (inr (IsPast-mem (x ∷ xs) zs x h (inl refl)))))
past_before x xs ys (z ∷ zs) (inr h) (inr k) none_in = past_before x xs ys zs h k none_in

pub AllPasts-here : {A : Type 0} (P : List A → Type 0) (xs : List A) → AllPasts P xs → P xs
AllPasts-here P [] h = h
AllPasts-here P (x ∷ xs) h = h.0

pub AllPasts-at : {A : Type 0} (P : List A → Type 0) (xs ys : List A) → AllPasts P ys → IsPast xs ys → P xs
AllPasts-at P xs [] h k = let e : xs ≡ [] = k in subst P (sym e) h
AllPasts-at P xs (y ∷ ys) h (inl e) = subst P (sym e) (h.0)
AllPasts-at P xs (y ∷ ys) h (inr k) = AllPasts-at P xs ys h.1 k

pub newest_none : {A : Type 0} (test : A → Bool) (xs : List A) (x : A) → newest test xs ≡ None → Mem x xs → test x ≡ false
newest_none test [] x h m = absurd m
newest_none {A} test (y ∷ ys) x h m = go (test y) refl m (newest_none test ys x)
  where
    go : (b : Bool) → test y ≡ b → Mem x (y ∷ ys) → (newest test ys ≡ None → Mem x ys → test x ≡ false) → test x ≡ false
    go true e k rec = let h2 : Some y ≡ None = rw e at h in absurd (cc h2)
    go false e (inl p) rec = ap test (sym p) ∙ e
    go false e (inr k) rec = let h2 : newest test ys ≡ None = rw e at h in rec h2 k

pub newest_mem : {A : Type 0} (test : A → Bool) (xs : List A) (x : A) → newest test xs ≡ Some x → Mem x xs × (test x ≡ true)
newest_mem test [] x h = absurd (cc h)
newest_mem {A} test (y ∷ ys) x h = go (test y) refl (newest_mem test ys x)
  where
    go : (b : Bool) → test y ≡ b → (newest test ys ≡ Some x → Mem x ys × (test x ≡ true)) → Mem x (y ∷ ys) × (test x ≡ true)
    go true e rec = let h2 : Some y ≡ Some x = rw e at h in let p : y ≡ x = cc h2 in (inl p, ap test (sym p) ∙ e)
    go false e rec = let h2 : newest test ys ≡ Some x = rw e at h in let f = rec h2 in (inr f.0, f.1)
