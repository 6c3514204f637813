-- The writers that are in a run, in a map by GTID.
use Rattle.std.proofs.Common.{◌≡◌, ℕ, ◌<◌, ◌≤◌, Bool, true, false, not, ltb, eqb, None, [], ◌∷◌, refl, sym, ap, ◌∙◌, ◌⊎◌, inl, inr, arith}
use Rattle.std.proofs.Math.Nat.{eq-or-lt_of_le}
use Rattle.std.specs.Prelude.{filter, IsSome, nat_le}
use Rattle.std.specs.Map.{lookup}
use Rattle.std.specs.BTreeMap.{is_at}
use Rattle.std.specs.BTreeMap.Range.{range_contains}
use Rattle.std.specs.declared.ops.Bound.TheVariants.{Included}
use Rattle.std.specs.Global.{Vec}
use Rattle.std.specs.Ordering.{nat_cmp, is_eq, is_gt, is_le, is_lt}
use Rattle.std.specs.Cmp.Lexicographic.{slice_cmp, texts_ties}
use Rattle.std.specs.Str.{bytes_eq}
use Rattle.std.proofs.lemmas.Cmp.{nat_list_cmp_total, tied_itself}
use Rattle.std.specs.declared.cmp.Ordering.{Ordering}
use Rattle.std.specs.declared.cmp.Ordering.TheVariants.{Less, Equal, Greater}
use Rattle.std.proofs.lemmas.Bool.{ltb-true, ltb-false, eqb-true, eqb-false, le-leb, lt-leb}
use Rattle.gr_ids.specs.declared.names.Gtid.{Gtid}
use Rattle.gtid_sets.specs.declared.run.Run.{Run}
use Rattle.gtid_sets.specs.Sets.{in_run}
use Rattle.key_items.specs.declared.item.Item.{Item}
use Rattle.certifier.specs.Forgetting.{IsInRun, Lacks}
use Rattle.certifier.specs.Inside.{gtid_cmp}
use Rattle.certifier.proofs.GtidOrder.{gtid_eq_itself_cmp, same_gtid_cmp}
use Rattle.certifier.proofs.Noted.{Written}

abbrev pub first_of : Run → Gtid
first_of r = record { source = r.source; number = r.first }

abbrev pub last_of : Run → Gtid
last_of r = record { source = r.source; number = r.last }

abbrev pub is_between : Run → Gtid → Bool
is_between r q = range_contains gtid_cmp (Included (first_of r)) (Included (last_of r)) q

from_first : (a b : ℕ) → is_le (nat_cmp a b) ≡ nat_le a b
from_first a b = go (ltb a b) (eqb a b) refl refl
  where
    go : (u v : Bool) → ltb a b ≡ u → eqb a b ≡ v → is_le (nat_cmp a b) ≡ nat_le a b
    go true v p q = let l : a < b = ltb-true a b p in rw p (sym (le-leb a b (omega arith)))
    go false true p q = let e : a ≡ b = eqb-true a b q in rw (p, q) (sym (le-leb a b (omega arith)))
    go false false p q = let l : b ≤ a = ltb-false a b p in let n : (a ≡ b → ⊥) = eqb-false a b q in rw (p, q) (sym (lt-leb a b (above l n)))
      where
        above : b ≤ a → (a ≡ b → ⊥) → b < a
        above l n = by_cases (eq-or-lt_of_le l) n
          where
            by_cases : (b ≡ a) ⊎ (b < a) → (a ≡ b → ⊥) → b < a
            by_cases (inl e) n = absurd (n (sym e))
            by_cases (inr h) n = h

to_last : (a b : ℕ) → not (is_lt (nat_cmp a b)) ≡ nat_le b a
to_last a b = go (ltb a b) (eqb a b) refl refl
  where
    go : (u v : Bool) → ltb a b ≡ u → eqb a b ≡ v → not (is_lt (nat_cmp a b)) ≡ nat_le b a
    go true v p q = let l : a < b = ltb-true a b p in rw p (sym (lt-leb b a l))
    go false true p q = let l : b ≤ a = ltb-false a b p in rw (p, q) (sym (le-leb b a l))
    go false false p q = let l : b ≤ a = ltb-false a b p in rw (p, q) (sym (le-leb b a l))

pub between_is : (r : Run) (q : Gtid) → is_between r q ≡ in_run q r
between_is r q = go (slice_cmp nat_cmp r.source q.source) refl (texts_ties r.source q.source)
  where
    go : (o : Ordering) → slice_cmp nat_cmp r.source q.source ≡ o → bytes_eq r.source q.source ≡ is_eq (slice_cmp nat_cmp r.source q.source) → is_between r q ≡ in_run q r
    go Less f t = let u : bytes_eq r.source q.source ≡ false = t ∙ ap is_eq f in rw (u, f) refl
    go Equal f t = let u : bytes_eq r.source q.source ≡ true = t ∙ ap is_eq f in rw (u, f) (rw (from_first r.first q.number, to_last r.last q.number) refl)
    go Greater f t = let u : bytes_eq r.source q.source ≡ false = t ∙ ap is_eq f in rw (u, f) refl

pub none_between : (ws : Written) (r : Run) → [] ≡ filter (λ e. is_between r e.0) ws → Lacks ws r
none_between [] r e g h = refl
none_between (w ∷ ws) r e g h = go (is_between r w.0) refl e (is_eq (gtid_cmp g w.0)) refl (λ k. none_between ws r k g h)
  where
    go : (u : Bool) → is_between r w.0 ≡ u → [] ≡ filter (λ e. is_between r e.0) (w ∷ ws) → (v : Bool) → is_eq (gtid_cmp g w.0) ≡ v
        → ([] ≡ filter (λ e. is_between r e.0) ws → lookup (is_at (gtid_cmp g)) ws ≡ None) → lookup (is_at (gtid_cmp g)) (w ∷ ws) ≡ None
    go true f e v i k = absurd (let z : [] ≡ w ∷ filter (λ e. is_between r e.0) ws = rw f at e in cc)
    go false f e true i k =
        let same : g ≡ w.0 = same_gtid_cmp g w.0 i in
        absurd (let z : is_between r w.0 ≡ true = ap (is_between r) (sym same) ∙ (between_is r g ∙ h) in cc)
    go false f e false i k = let rest : [] ≡ filter (λ e. is_between r e.0) ws = rw f at e in rw i (k rest)

pub first_between : (ws rest : Written) (r : Run) (g : Gtid) (v : Vec Item) → (g, v) ∷ rest ≡ filter (λ e. is_between r e.0) ws → IsInRun ws r g
first_between [] rest r g v e = absurd (cc e)
first_between (w ∷ ws) rest r g v e = go (is_between r w.0) refl e (first_between ws rest r g v)
  where
    go : (u : Bool) → is_between r w.0 ≡ u → (g, v) ∷ rest ≡ filter (λ e. is_between r e.0) (w ∷ ws)
        → ((g, v) ∷ rest ≡ filter (λ e. is_between r e.0) ws → IsInRun ws r g) → IsInRun (w ∷ ws) r g
    go true f e k =
        let z : (g, v) ∷ rest ≡ w ∷ filter (λ e. is_between r e.0) ws = rw f at e in
        let pair : (g, v) ≡ w = cc in
        let own : g ≡ w.0 = ap (λ p. p.0) pair in
        record { inside = sym (between_is r g) ∙ (ap (is_between r) own ∙ f); there = rw (sym own, gtid_eq_itself_cmp g) refl }
    go false f e k =
        let z : (g, v) ∷ rest ≡ filter (λ e. is_between r e.0) ws = rw f at e in
        let x = k z in
        record { inside = x.inside; there = either (is_eq (gtid_cmp g w.0)) refl x.there }
      where
        either : (u : Bool) → is_eq (gtid_cmp g w.0) ≡ u → IsSome (lookup (is_at (gtid_cmp g)) ws) → IsSome (lookup (is_at (gtid_cmp g)) (w ∷ ws))
        either true i h = rw i refl
        either false i h = rw i h

-- a run's first GTID isn't behind its last one
pub forward : (r : Run) → r.first ≤ r.last → is_gt (gtid_cmp (first_of r) (last_of r)) ≡ false
forward r l = let same : slice_cmp nat_cmp r.source r.source ≡ Equal = tied_itself nat_list_cmp_total r.source in rw same (not_above r.first r.last l)
  where
    not_above : (a b : ℕ) → a ≤ b → is_gt (nat_cmp a b) ≡ false
    not_above a b l = go (ltb a b) (eqb a b) refl refl
      where
        go : (u v : Bool) → ltb a b ≡ u → eqb a b ≡ v → is_gt (nat_cmp a b) ≡ false
        go true v p q = rw p refl
        go false true p q = rw (p, q) refl
        go false false p q = let h : b ≤ a = ltb-false a b p in let n : (a ≡ b → ⊥) = eqb-false a b q in absurd (n (omega arith))
