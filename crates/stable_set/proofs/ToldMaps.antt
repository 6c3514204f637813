-- The told sets in a map by incarnation.
use Rattle.std.proofs.Common.{◌≡◌, Bool, true, false, Option, Some, None, List, [], ◌∷◌, ◌++◌, map, refl, sym, ap, ◌∙◌}
use Rattle.std.specs.Prelude.{fold}
use Rattle.std.proofs.lemmas.List.Sums.{fold-append}
use Rattle.std.specs.Ordering.{is_eq, is_lt}
use Rattle.std.specs.declared.cmp.Ordering.{Ordering}
use Rattle.std.specs.declared.cmp.Ordering.TheVariants.{Less, Equal, Greater}
use Rattle.std.specs.Map.{lookup}
use Rattle.std.specs.BTreeMap.{insert_entry, is_at}
use Rattle.gr_ids.specs.declared.names.Inc.{Inc}
use Rattle.gr_ids.specs.Names.{inc_eq, inc_lt}
use Rattle.gtid_sets.specs.Sets.{Gtids}
use Rattle.gtid_sets.specs.declared.told.ToldSet.{ToldSet}
use Rattle.group_rules.specs.Told.{set_or_empty, sets_of, told_of, with_told}
use Rattle.stable_set.specs.Entries.{told_in}
use Rattle.node_rules.specs.Order.{inc_cmp}
use Rattle.node_rules.proofs.Incs.{inc_is}
use Rattle.node_rules.proofs.IncOrder.{inc_lt_cmp, inc_eq_cmp, inc_eq_back}

abbrev pub Entries : Type 0
Entries = List (Inc × Gtids)

pub reads : (es : Entries) (i : Inc) → told_of (map told_in es) i ≡ lookup (is_at (inc_cmp i)) es
reads [] i = refl
reads (e ∷ es) i = go (is_eq (inc_cmp i e.0)) refl (reads es i)
  where
    go : (b : Bool) → is_eq (inc_cmp i e.0) ≡ b → told_of (map told_in es) i ≡ lookup (is_at (inc_cmp i)) es → told_of (map told_in (e ∷ es)) i ≡ lookup (is_at (inc_cmp i)) (e ∷ es)
    go true f r = let u : inc_eq e.0 i ≡ true = inc_eq_back i e.0 ∙ f in rw (u, told_of, f) refl
    go false f r = let u : inc_eq e.0 i ≡ false = inc_eq_back i e.0 ∙ f in rw (u, told_of, f) r

pub inserted : (es : Entries) (i : Inc) (s : Gtids) → map told_in (insert_entry inc_cmp es i s) ≡ with_told (map told_in es) (told_in (i, s))
inserted [] i s = refl
inserted (e ∷ es) i s = go (inc_cmp i e.0) refl (inserted es i s)
  where
    go : (o : Ordering) → inc_cmp i e.0 ≡ o → map told_in (insert_entry inc_cmp es i s) ≡ with_told (map told_in es) (told_in (i, s)) → map told_in (insert_entry inc_cmp (e ∷ es) i s) ≡ with_told (map told_in (e ∷ es)) (told_in (i, s))
    go Less f r = let l : inc_lt i e.0 ≡ true = inc_lt_cmp i e.0 ∙ ap is_lt f in rw (l, with_told, f) refl
    go Equal f r =
        let l : inc_lt i e.0 ≡ false = inc_lt_cmp i e.0 ∙ ap is_lt f in
        let u : inc_eq i e.0 ≡ true = inc_eq_cmp i e.0 ∙ ap is_eq f in
        rw (l, with_told, u, f) (ap (λ k. told_in (k, s) ∷ map told_in es) (sym (inc_is i e.0 u)))
    go Greater f r =
        let l : inc_lt i e.0 ≡ false = inc_lt_cmp i e.0 ∙ ap is_lt f in
        let u : inc_eq i e.0 ≡ false = inc_eq_cmp i e.0 ∙ ap is_eq f in
        rw (l, with_told, u, f) (ap (λ l. told_in e ∷ l) r)

-- ---- what was told last, by one and by several

pub last_is : (es : Entries) (i : Inc) (o : Option Gtids) → o ≡ lookup (is_at (inc_cmp i)) es → set_or_empty (told_of (map told_in es) i) ≡ set_or_empty o
last_is es i o e = ap set_or_empty (reads es i ∙ sym e)

pub set_told : (ts : List ToldSet) (i : Inc) (s : Gtids) → told_of ts i ≡ Some s → sets_of ts (i ∷ []) ≡ told_in (i, s) ∷ []
set_told ts i s e = rw (e, sets_of) refl

pub none_told : (ts : List ToldSet) (i : Inc) → told_of ts i ≡ None → sets_of ts (i ∷ []) ≡ []
none_told ts i e = rw (e, sets_of) refl

pub one_more : (ts : List ToldSet) (i : Inc) (is : List Inc) → sets_of ts (i ∷ []) ++ sets_of ts is ≡ sets_of ts (i ∷ is)
one_more ts i is = go (told_of ts i) refl
  where
    go : (o : Option Gtids) → told_of ts i ≡ o → sets_of ts (i ∷ []) ++ sets_of ts is ≡ sets_of ts (i ∷ is)
    go None e = rw (e, sets_of) refl
    go (Some s) e = rw (e, sets_of) refl

-- one set more is put in
pub told_more : (es new : Entries) (x : ToldSet) (ys : List ToldSet) → new ≡ insert_entry inc_cmp es x.inc x.set → map told_in es ≡ fold with_told [] ys → map told_in new ≡ fold with_told [] (ys ++ x ∷ [])
told_more es new x ys e h = ap (map told_in) e ∙ (inserted es x.inc x.set ∙ (ap (λ (ts : List ToldSet). with_told ts x) h ∙ sym (fold-append with_told [] ys (x ∷ []))))
