-- No last number is above those of the blocks taken.
use Rattle.std.proofs.Common.{◌≡◌, ℕ, ◌≤◌, Bool, true, false, Option, List, [], ◌∷◌, map, refl, sym, ap, subst, ◌∙◌}
use Rattle.std.specs.Prelude.{fold, IfSome, nat_le}
use Rattle.std.specs.List.{AllByRecursion, list_all}
use Rattle.std.proofs.lemmas.Bool.{and_parts, leb-true}
use Rattle.std.specs.Map.{lookup}
use Rattle.std.specs.BTreeMap.{is_at}
use Rattle.gr_ids.specs.declared.names.Inc.{Inc}
use Rattle.gr_ids.specs.declared.names.LastNumber.{LastNumber}
use Rattle.gr_ids.specs.Names.{inc_eq, inc_lt}
use Rattle.group_rules.specs.Certifier.{last_of, with_last}
use Rattle.certifier.specs.Certifying.{numbers_told}
use Rattle.certifier.specs.Inside.{last_in}
use Rattle.node_rules.specs.Order.{inc_cmp}
use Rattle.certifier.proofs.LastMaps.{reads}

abbrev AreBelow : ℕ → List LastNumber → Type 0
AreBelow n xs = AllByRecursion (λ x. x.number ≤ n) xs

with_one : (n : ℕ) (xs : List LastNumber) (x : LastNumber) → AreBelow n xs → x.number ≤ n → AreBelow n (with_last xs x)
with_one n [] x h l = (l, tt)
with_one n (y ∷ ys) x h l = go (inc_lt x.inc y.inc) (inc_eq x.inc y.inc) refl refl (with_one n ys x h.1 l)
  where
    go : (u v : Bool) → inc_lt x.inc y.inc ≡ u → inc_eq x.inc y.inc ≡ v → AreBelow n (with_last ys x) → AreBelow n (with_last (y ∷ ys) x)
    go true v e f r = rw (e, with_last) (l, h)
    go false true e f r = rw (e, f, with_last) (l, h.1)
    go false false e f r = rw (e, f, with_last) (h.0, r)

with_all : (n : ℕ) (front xs : List LastNumber) → AreBelow n front → AreBelow n xs → AreBelow n (fold with_last front xs)
with_all n front [] h k = h
with_all n front (x ∷ xs) h k = with_all n (with_last front x) xs (with_one n front x h k.0) k.1

of_all : (n : ℕ) (xs : List LastNumber) (i : Inc) → AreBelow n xs → IfSome (last_of xs i) (λ m. m ≤ n)
of_all n [] i h = tt
of_all n (x ∷ xs) i h = go (inc_eq x.inc i) refl (of_all n xs i h.1)
  where
    go : (b : Bool) → inc_eq x.inc i ≡ b → IfSome (last_of xs i) (λ m. m ≤ n) → IfSome (last_of (x ∷ xs) i) (λ m. m ≤ n)
    go true e r = rw (e, last_of) (h.0)
    go false e r = rw (e, last_of) r

each_below : (n : ℕ) (xs : List LastNumber) → list_all (λ (x : LastNumber). nat_le x.number n) xs ≡ true → AreBelow n xs
each_below n [] h = tt
each_below n (x ∷ xs) h = let p = and_parts (nat_le x.number n) (list_all (λ (x : LastNumber). nat_le x.number n) xs) h in (leb-true x.number n p.0, each_below n xs p.1)

pub told_below : (n : ℕ) (xs : List LastNumber) (es : List (Inc × ℕ)) → list_all (λ (x : LastNumber). nat_le x.number n) xs ≡ true → map last_in es ≡ numbers_told xs → (i : Inc) → IfSome (lookup (is_at (inc_cmp i)) es) (λ m. m ≤ n)
told_below n xs es h e i = subst (λ (o : Option ℕ). IfSome o (λ m. m ≤ n)) (ap (λ ys. last_of ys i) (sym e) ∙ reads es i) (of_all n (numbers_told xs) i (with_all n [] xs tt (each_below n xs h)))
