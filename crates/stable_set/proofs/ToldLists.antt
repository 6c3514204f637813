-- Told sets that ascend by incarnation, put in one after another.
use Rattle.std.proofs.Common.{◌≡◌, true, false, List, [], ◌∷◌, ◌++◌, append_assoc, refl, sym, ap, ◌∙◌}
use Rattle.std.specs.Prelude.{fold}
use Rattle.std.specs.Ordering.{is_eq, is_lt, ordering_reverse}
use Rattle.std.specs.declared.cmp.Ordering.{Ordering}
use Rattle.std.specs.declared.cmp.Ordering.TheVariants.{Less, Equal, Greater}
use Rattle.gr_ids.specs.declared.names.Inc.{Inc}
use Rattle.gtid_sets.specs.declared.told.ToldSet.{ToldSet}
use Rattle.gr_ids.specs.Names.{inc_eq, inc_lt}
use Rattle.group_rules.specs.Told.{with_told}
use Rattle.stable_set.specs.Entries.{ToldAscend}
use Rattle.node_rules.specs.Order.{inc_cmp}
use Rattle.node_rules.proofs.IncOrder.{inc_cmp_total, inc_eq_cmp, inc_lt_cmp}

is_less : (o : Ordering) → is_lt o ≡ true → o ≡ Less
is_less Less e = refl
is_less Equal e = cc
is_less Greater e = cc

less : (a b : Inc) → inc_lt a b ≡ true → inc_cmp a b ≡ Less
less a b h = is_less (inc_cmp a b) (sym (inc_lt_cmp a b) ∙ h)

back : (a b : Inc) → inc_lt a b ≡ true → inc_cmp b a ≡ Greater
back a b h = inc_cmp_total.antisymm b a ∙ ap ordering_reverse (less a b h)

lower : (a b c : Inc) → inc_lt a b ≡ true → inc_lt b c ≡ true → inc_lt a c ≡ true
lower a b c h k = inc_lt_cmp a c ∙ ap is_lt (inc_cmp_total.trans a b c (less a b h) (less b c k))

-- all origins of the list are below this one
abbrev AreBelow : List ToldSet → Inc → Type 0
AreBelow [] i = Unit {0}
AreBelow (x ∷ xs) i = (inc_lt x.inc i ≡ true) × AreBelow xs i

at_end : (xs : List ToldSet) (n : ToldSet) → AreBelow xs n.inc → with_told xs n ≡ xs ++ n ∷ []
at_end [] n h = refl
at_end (x ∷ xs) n h =
    let l : inc_lt n.inc x.inc ≡ false = inc_lt_cmp n.inc x.inc ∙ ap is_lt (back x.inc n.inc h.0) in
    let u : inc_eq n.inc x.inc ≡ false = inc_eq_cmp n.inc x.inc ∙ ap is_eq (back x.inc n.inc h.0) in
    rw (l, u, with_told) (ap (λ ys. x ∷ ys) (at_end xs n h.1))

below_next : (xs : List ToldSet) (i j : Inc) → AreBelow xs i → inc_lt i j ≡ true → AreBelow xs j
below_next [] i j h l = tt
below_next (x ∷ xs) i j h l = (lower x.inc i j h.0 l, below_next xs i j h.1 l)

and_below : (xs : List ToldSet) (n : ToldSet) (j : Inc) → AreBelow xs j → inc_lt n.inc j ≡ true → AreBelow (xs ++ n ∷ []) j
and_below [] n j h l = (l, tt)
and_below (x ∷ xs) n j h l = (h.0, and_below xs n j h.1 l)

told_behind : (xs front : List ToldSet) (n : ToldSet) → AreBelow front n.inc → ToldAscend (n ∷ xs) → fold with_told front (n ∷ xs) ≡ front ++ n ∷ xs
told_behind [] front n h a = at_end front n h
told_behind (x ∷ xs) front n h a =
    let up : AreBelow (front ++ n ∷ []) x.inc = and_below front n x.inc (below_next front n.inc x.inc h a.0) a.0 in
    let r : fold with_told (front ++ n ∷ []) (x ∷ xs) ≡ (front ++ n ∷ []) ++ x ∷ xs = told_behind xs (front ++ n ∷ []) x up a.1 in
    ap (λ f. fold with_told f (x ∷ xs)) (at_end front n h) ∙ (r ∙ append_assoc front (n ∷ []) (x ∷ xs))

-- they are told as they are
pub told_as_they_are : (xs : List ToldSet) → ToldAscend xs → fold with_told [] xs ≡ xs
told_as_they_are [] a = refl
told_as_they_are (x ∷ xs) a = told_behind xs [] x tt a
