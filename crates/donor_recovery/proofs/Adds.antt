-- The data of the Adds in a map by place.
use Rattle.std.proofs.Common.{◌≡◌, ℕ, ◌<◌, Bool, true, false, ltb, eqb, Some, None, List, [], ◌∷◌, map, refl, sym, ap, ◌∙◌, arith}
use Rattle.std.specs.Prelude.{option_map}
use Rattle.std.specs.Ordering.{nat_cmp}
use Rattle.std.specs.Map.{lookup}
use Rattle.std.specs.BTreeMap.{insert_entry, is_at}
use Rattle.std.proofs.lemmas.Bool.{ltb-true, eqb-true}
use Rattle.donor_recovery.specs.declared.at_add.AtAdd.{AtAdd}
use Rattle.donor_recovery.specs.Donating.{at_place, with_add}
use Rattle.donor_recovery.specs.Inside.{add_in}

abbrev pub Entries : Type 0
Entries = List (ℕ × AtAdd)

pub inserted : (es : Entries) (k : ℕ) (a : AtAdd) → map add_in (insert_entry nat_cmp es k a) ≡ with_add (map add_in es) (add_in (k, a))
inserted [] k a = refl
inserted (e ∷ es) k a = go (ltb k e.0) (eqb k e.0) refl refl (inserted es k a)
  where
    go : (u v : Bool) → ltb k e.0 ≡ u → eqb k e.0 ≡ v → map add_in (insert_entry nat_cmp es k a) ≡ with_add (map add_in es) (add_in (k, a)) → map add_in (insert_entry nat_cmp (e ∷ es) k a) ≡ with_add (map add_in (e ∷ es)) (add_in (k, a))
    go true v p q r = rw (p, with_add) refl
    go false true p q r = rw (p, q, with_add) (ap (λ n. add_in (n, a) ∷ map add_in es) (sym (eqb-true k e.0 q)))
    go false false p q r = rw (p, q, with_add) (ap (λ l. add_in e ∷ l) r)

pub reads : (es : Entries) (k : ℕ) → at_place (map add_in es) k ≡ option_map (λ a. add_in (k, a)) (lookup (is_at (nat_cmp k)) es)
reads [] k = refl
reads (e ∷ es) k = go (ltb k e.0) (eqb k e.0) refl refl (reads es k)
  where
    go : (u v : Bool) → ltb k e.0 ≡ u → eqb k e.0 ≡ v → at_place (map add_in es) k ≡ option_map (λ a. add_in (k, a)) (lookup (is_at (nat_cmp k)) es) → at_place (map add_in (e ∷ es)) k ≡ option_map (λ a. add_in (k, a)) (lookup (is_at (nat_cmp k)) (e ∷ es))
    go true true p q r = let l : k < e.0 = ltb-true k e.0 p in let m : k ≡ e.0 = eqb-true k e.0 q in absurd (omega arith)
    go true false p q r = rw (p, q, at_place) r
    go false true p q r = rw (p, q, at_place) (ap (λ n. Some (add_in (n, e.1))) (sym (eqb-true k e.0 q)))
    go false false p q r = rw (p, q, at_place) r

pub kept_at : (es : Entries) (k p : ℕ) (a : AtAdd) → k ≡ p → Some a ≡ lookup (is_at (nat_cmp k)) es → at_place (map add_in es) p ≡ Some (add_in (p, a))
kept_at es k p a e h = reads es p ∙ ap (option_map (λ a. add_in (p, a))) (sym (h ∙ ap (λ n. lookup (is_at (nat_cmp n)) es) e))

pub none_at : (es : Entries) (k p : ℕ) → k ≡ p → None ≡ lookup (is_at (nat_cmp k)) es → at_place (map add_in es) p ≡ None
none_at es k p e h = reads es p ∙ ap (option_map (λ a. add_in (p, a))) (sym (h ∙ ap (λ n. lookup (is_at (nat_cmp n)) es) e))
