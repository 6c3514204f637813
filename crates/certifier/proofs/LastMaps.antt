-- The last numbers in a map by incarnation.
use Rattle.std.proofs.Common.{◌≡◌, ℕ, ◌+◌, ◌<◌, Bool, true, false, Option, Some, None, List, [], ◌∷◌, ◌++◌, map, length, get_or, drop, drop-cons, add-one, refl, sym, ap, ◌∙◌}
use Rattle.std.specs.Prelude.{fold}
use Rattle.std.specs.Ordering.{is_eq, is_lt}
use Rattle.std.specs.declared.cmp.Ordering.{Ordering}
use Rattle.std.specs.declared.cmp.Ordering.TheVariants.{Less, Equal, Greater}
use Rattle.std.specs.Map.{lookup}
use Rattle.std.specs.BTreeMap.{insert_entry, is_at}
use Rattle.gr_ids.specs.declared.names.Inc.{Inc}
use Rattle.gr_ids.specs.declared.names.LastNumber.{LastNumber}
use Rattle.gr_ids.specs.Names.{inc_eq, inc_lt}
use Rattle.group_rules.specs.Certifier.{last_of, numbers_of, with_last}
use Rattle.certifier.specs.Inside.{last_in}
use Rattle.node_rules.specs.Order.{inc_cmp}
use Rattle.node_rules.proofs.Incs.{inc_is}
use Rattle.node_rules.proofs.IncOrder.{inc_lt_cmp, inc_eq_cmp, inc_eq_back}

abbrev pub Entries : Type 0
Entries = List (Inc × ℕ)

pub reads : (es : Entries) (i : Inc) → last_of (map last_in es) i ≡ lookup (is_at (inc_cmp i)) es
reads [] i = refl
reads (e ∷ es) i = go (is_eq (inc_cmp i e.0)) refl (reads es i)
  where
    go : (b : Bool) → is_eq (inc_cmp i e.0) ≡ b → last_of (map last_in es) i ≡ lookup (is_at (inc_cmp i)) es → last_of (map last_in (e ∷ es)) i ≡ lookup (is_at (inc_cmp i)) (e ∷ es)
    go true f r = let u : inc_eq e.0 i ≡ true = inc_eq_back i e.0 ∙ f in rw (u, last_of, f) refl
    go false f r = let u : inc_eq e.0 i ≡ false = inc_eq_back i e.0 ∙ f in rw (u, last_of, f) r

pub inserted : (es : Entries) (i : Inc) (n : ℕ) → map last_in (insert_entry inc_cmp es i n) ≡ with_last (map last_in es) (last_in (i, n))
inserted [] i n = refl
inserted (e ∷ es) i n = go (inc_cmp i e.0) refl (inserted es i n)
  where
    go : (o : Ordering) → inc_cmp i e.0 ≡ o → map last_in (insert_entry inc_cmp es i n) ≡ with_last (map last_in es) (last_in (i, n)) → map last_in (insert_entry inc_cmp (e ∷ es) i n) ≡ with_last (map last_in (e ∷ es)) (last_in (i, n))
    go Less f r = let l : inc_lt i e.0 ≡ true = inc_lt_cmp i e.0 ∙ ap is_lt f in rw (l, with_last, f) refl
    go Equal f r =
        let l : inc_lt i e.0 ≡ false = inc_lt_cmp i e.0 ∙ ap is_lt f in
        let u : inc_eq i e.0 ≡ true = inc_eq_cmp i e.0 ∙ ap is_eq f in
        rw (l, with_last, u, f) (ap (λ k. last_in (k, n) ∷ map last_in es) (sym (inc_is i e.0 u)))
    go Greater f r =
        let l : inc_lt i e.0 ≡ false = inc_lt_cmp i e.0 ∙ ap is_lt f in
        let u : inc_eq i e.0 ≡ false = inc_eq_cmp i e.0 ∙ ap is_eq f in
        rw (l, with_last, u, f) (ap (λ l. last_in e ∷ l) r)

pub has_number : (xs : List LastNumber) (i : Inc) (n : ℕ) → last_of xs i ≡ Some n → numbers_of xs (i ∷ []) ≡ last_in (i, n) ∷ []
has_number xs i n e = rw (e, numbers_of) refl

pub has_none : (xs : List LastNumber) (i : Inc) → last_of xs i ≡ None → numbers_of xs (i ∷ []) ≡ []
has_none xs i e = rw (e, numbers_of) refl

pub one_more : (xs : List LastNumber) (i : Inc) (is : List Inc) → numbers_of xs (i ∷ []) ++ numbers_of xs is ≡ numbers_of xs (i ∷ is)
one_more xs i is = go (last_of xs i) refl
  where
    go : (o : Option ℕ) → last_of xs i ≡ o → numbers_of xs (i ∷ []) ++ numbers_of xs is ≡ numbers_of xs (i ∷ is)
    go None e = rw (e, numbers_of) refl
    go (Some n) e = rw (e, numbers_of) refl

-- one number more is put in
pub told_next : (xs : List LastNumber) (k : ℕ) (d : LastNumber) (es fs : Entries) (all : List LastNumber) → k < length xs
    → fs ≡ insert_entry inc_cmp es (get_or xs k d).inc (get_or xs k d).number → fold with_last (map last_in es) (drop k xs) ≡ all → fold with_last (map last_in fs) (drop (k + 1) xs) ≡ all
told_next xs k d es fs all l e h =
    let x = get_or xs k d in
    let here : drop k xs ≡ x ∷ drop (k + 1) xs = rw (add-one, drop-cons xs k d l) refl in
    let put : map last_in fs ≡ with_last (map last_in es) x = ap (map last_in) e ∙ inserted es x.inc x.number in
    ap (λ ys. fold with_last ys (drop (k + 1) xs)) put ∙ (ap (fold with_last (map last_in es)) (sym here) ∙ h)
