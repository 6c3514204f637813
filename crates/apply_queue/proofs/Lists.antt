-- What a list of certified transactions has.
use Rattle.std.proofs.Common.{◌≡◌, ◌⊎◌, inl, inr, Bool, true, false, List, [], ◌∷◌, ◌++◌, refl, sym, ap, subst, ◌∙◌}
use Rattle.std.specs.Prelude.{filter, reverse, if◌then◌else◌}
use Rattle.std.proofs.lemmas.Bool.{and_parts}
use Rattle.std.specs.List.{list_all}
use Rattle.std.proofs.lemmas.List.{reverse-append}
use Rattle.node_rules.specs.Lists.{In}
use Rattle.group_rules.specs.Events.{Cert}

pub in_filter : (p : Cert → Bool) (x : Cert) (xs : List Cert) → In x (filter p xs) → In x xs × (p x ≡ true)
in_filter p x [] m = absurd m
in_filter p x (y ∷ ys) m = go (p y) refl m (in_filter p x ys)
  where
    go : (b : Bool) → p y ≡ b → In x (if b then y ∷ filter p ys else filter p ys) → (In x (filter p ys) → In x ys × (p x ≡ true)) → In x (y ∷ ys) × (p x ≡ true)
    go true e (inl same) k = (inl same, ap p (sym same) ∙ e)
    go true e (inr n) k = let r = k n in (inr r.0, r.1)
    go false e n k = let r = k n in (inr r.0, r.1)

in_end : (x y : Cert) (xs : List Cert) → In x (xs ++ y ∷ []) → (y ≡ x) ⊎ In x xs
in_end x y [] m = elim m [ inl same ↦ inl same | inr n ↦ absurd n ]
in_end x y (z ∷ zs) (inl same) = inr (inl same)
in_end x y (z ∷ zs) (inr n) = elim (in_end x y zs n) [ inl same ↦ inl same | inr k ↦ inr (inr k) ]

pub in_reverse : (x : Cert) (xs : List Cert) → In x (reverse xs) → In x xs
in_reverse x [] m = m
in_reverse x (y ∷ ys) m = elim (in_end x y (reverse ys) (subst (In x) (reverse-append (y ∷ []) ys) m)) [ inl same ↦ inl same | inr n ↦ inr (in_reverse x ys n) ]

pub all_in : (p : Cert → Bool) (x : Cert) (xs : List Cert) → list_all p xs ≡ true → In x xs → p x ≡ true
all_in p x [] a m = absurd m
all_in p x (y ∷ ys) a (inl same) = ap p (sym same) ∙ (and_parts (p y) (list_all p ys) a).0
all_in p x (y ∷ ys) a (inr m) = all_in p x ys (and_parts (p y) (list_all p ys) a).1 m
