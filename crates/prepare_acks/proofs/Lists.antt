-- What a list has, and what filters leave of it.
use Rattle.std.proofs.Common.{◌≡◌, ◌⊎◌, inl, inr, Bool, true, false, ◌&&◌, List, [], ◌∷◌, ◌++◌, refl, ap, subst, ◌∙◌}
use Rattle.std.specs.Prelude.{filter, reverse}
use Rattle.std.proofs.lemmas.Bool.{or_parts}
use Rattle.std.proofs.lemmas.List.{reverse-append}
use Rattle.gr_ids.specs.declared.names.Inc.{Inc}
use Rattle.gr_ids.specs.Names.{inc_eq, has_inc}
use Rattle.node_rules.specs.Lists.{In}

pub in_left : {A : Type 0} (x : A) (xs ys : List A) → In x xs → In x (xs ++ ys)
in_left x [] ys h = absurd h
in_left x (y ∷ xs) ys (inl e) = inl e
in_left x (y ∷ xs) ys (inr h) = inr (in_left x xs ys h)

pub in_right : {A : Type 0} (x : A) (xs ys : List A) → In x ys → In x (xs ++ ys)
in_right x [] ys h = h
in_right x (y ∷ xs) ys h = inr (in_right x xs ys h)

pub in_either : {A : Type 0} (x : A) (xs ys : List A) → In x (xs ++ ys) → In x xs ⊎ In x ys
in_either x [] ys h = inr h
in_either x (y ∷ xs) ys (inl e) = inl (inl e)
in_either x (y ∷ xs) ys (inr h) = elim (in_either x xs ys h) [ inl p ↦ inl (inr p) | inr q ↦ inr q ]

pub in_reverse : {A : Type 0} (x : A) (xs : List A) → In x (reverse xs) → In x xs
in_reverse x [] h = h
in_reverse x (y ∷ ys) h = go (in_either x (reverse ys) (y ∷ []) (subst (λ l. In x l) (reverse-append (y ∷ []) ys) h)) (λ z. in_reverse x ys z)
  where
    go : In x (reverse ys) ⊎ In x (y ∷ []) → (In x (reverse ys) → In x ys) → In x (y ∷ ys)
    go (inl z) k = inr (k z)
    go (inr (inl z)) k = inl z
    go (inr (inr z)) k = absurd z

-- one that a list hasn't is none of those that it has
pub none_is : (xs : List Inc) (m i : Inc) → In m xs → has_inc xs i ≡ false → inc_eq m i ≡ false
none_is [] m i h n = absurd h
none_is (x ∷ xs) m i (inl e) n = subst (λ z. inc_eq z i ≡ false) e (or_parts (inc_eq x i) (has_inc xs i) n).0
none_is (x ∷ xs) m i (inr h) n = none_is xs m i h (or_parts (inc_eq x i) (has_inc xs i) n).1

-- ---- filters

pub filter_as : {A : Type 0} (p q : A → Bool) (xs : List A) → ((x : A) → In x xs → p x ≡ q x) → filter p xs ≡ filter q xs
filter_as p q [] h = refl
filter_as {A} p q (x ∷ xs) h = go (q x) refl (h x (inl refl)) (filter_as p q xs (λ y m. h y (inr m)))
  where
    go : (b : Bool) → q x ≡ b → p x ≡ q x → filter p xs ≡ filter q xs → filter p (x ∷ xs) ≡ filter q (x ∷ xs)
    go true f g r = let k : p x ≡ true = g ∙ f in rw (f, k) (ap (λ (l : List A). x ∷ l) r)
    go false f g r = let k : p x ≡ false = g ∙ f in rw (f, k) r

pub filter_all : {A : Type 0} (xs : List A) → filter (λ x. true) xs ≡ xs
filter_all [] = refl
filter_all {A} (x ∷ xs) = ap (λ (l : List A). x ∷ l) (filter_all xs)

pub filter_both : {A : Type 0} (p q : A → Bool) (xs : List A) → filter p (filter q xs) ≡ filter (λ x. p x && q x) xs
filter_both p q [] = refl
filter_both {A} p q (x ∷ xs) = go (q x) refl (p x) refl (filter_both p q xs)
  where
    go : (b : Bool) → q x ≡ b → (a : Bool) → p x ≡ a → filter p (filter q xs) ≡ filter (λ y. p y && q y) xs → filter p (filter q (x ∷ xs)) ≡ filter (λ y. p y && q y) (x ∷ xs)
    go true f true g r = rw (f, g) (ap (λ (l : List A). x ∷ l) r)
    go true f false g r = rw (f, g) r
    go false f true g r = rw (f, g) r
    go false f false g r = rw (f, g) r
