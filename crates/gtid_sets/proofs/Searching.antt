-- Where a GTID stands among the runs of a set.
use Rattle.std.proofs.Common.{◌≡◌, ℕ, zero, suc, ◌+◌, ◌<◌, ◌≤◌, Bool, true, false, cond, ◌||◌, [], ◌∷◌, ◌++◌, length, get_or, take, drop, refl, sym, ap, ◌∙◌, inl, inr, arith, eqb, ltb}
use Rattle.std.proofs.lemmas.Bool.{cases_Bool, false≢true, or_from}
use Rattle.std.proofs.lemmas.Bool.Decides.{nat_tests}
use Rattle.byte_forms.specs.Numbers.{number_of}
use Rattle.gr_ids.specs.declared.names.Gtid.{Gtid}
use Rattle.gtid_sets.specs.Sets.{Run, Gtids, single, in_run, has, before_run, with_run}
use Rattle.gtid_sets.specs.Canonical.{IsUuid, IsRun, IsBefore, IsCanonical}
use Rattle.gtid_sets.specs.Places.{runs_before}
use Rattle.gtid_sets.proofs.Keys.{bytes_eq-key, bytes_lt-key, in_run-key, before_run-key}
use Rattle.gtid_sets.proofs.RunLemmas.{before_head, with_run-after}
use Rattle.gtid_sets.proofs.Members.{has_behind}

pub before_single-key : (r : Run) (g : Gtid) → IsRun r → IsUuid g.source → before_run r (single g) ≡ cond (eqb (number_of r.source) (number_of g.source)) (ltb (r.last + 1) g.number) (ltb (number_of r.source) (number_of g.source))
before_single-key r g hr hg = rw (bytes_eq-key r.source g.source hr.uuid hg, bytes_lt-key r.source g.source hr.uuid hg) refl

pub within-runs_before : (s : Gtids) (g : Gtid) → runs_before s g ≤ length s
unfolding runs_before
within-runs_before [] g = omega arith
within-runs_before (r ∷ rs) g = by_test (within-runs_before rs g) (before_run r (single g))
  where
    by_test : runs_before rs g ≤ length rs → (t : Bool) → (elim t [ true ↦ suc (runs_before rs g) | false ↦ 0 ]) ≤ suc (length rs)
    by_test later true = omega arith
    by_test later false = omega arith

-- a run that isn't before the GTID stands at the place or behind it
pub runs_before-le : (s : Gtids) (g : Gtid) (i : ℕ) (d : Run) → i < length s → before_run (get_or s i d) (single g) ≡ false → runs_before s g ≤ i
unfolding runs_before
runs_before-le [] g i d lt h = absurd (omega arith)
runs_before-le (r ∷ rs) g zero d lt h = rw (runs_before, h) (omega arith)
runs_before-le (r ∷ rs) g (suc i) d lt h = by_test (runs_before-le rs g i d (omega arith) h) (before_run r (single g))
  where
    by_test : runs_before rs g ≤ i → (t : Bool) → (elim t [ true ↦ suc (runs_before rs g) | false ↦ 0 ]) ≤ suc i
    by_test later true = omega arith
    by_test later false = omega arith

before_before : (r s : Run) (g : Gtid) → IsUuid g.source → IsRun r → IsRun s → before_run r s ≡ true → before_run s (single g) ≡ true → before_run r (single g) ≡ true
before_before r s g hg hr hs p q =
    let kp = sym (before_run-key r s hr hs) ∙ p in
    let kq = sym (before_single-key s g hs hg) ∙ q in
    before_single-key r g hr hg ∙ grind (arith, nat_tests, kp, kq, hs.ordered)

each_before : (r : Run) (s : Gtids) (i : ℕ) (d : Run) → IsRun r → IsBefore r s → IsCanonical s → i < length s → (before_run r (get_or s i d) ≡ true) × IsRun (get_or s i d)
each_before r [] i d hr p hs lt = absurd (omega arith)
each_before r (s ∷ ss) zero d hr p hs lt = (p, hs.0)
each_before r (s ∷ ss) (suc i) d hr p hs lt = each_before r ss i d hr (before_head r s ss hr p hs) hs.2 (omega arith)

-- a run that is before the GTID stands before the place
pub lt-runs_before : (s : Gtids) (g : Gtid) (i : ℕ) (d : Run) → IsUuid g.source → IsCanonical s → i < length s → before_run (get_or s i d) (single g) ≡ true → i < runs_before s g
unfolding runs_before
lt-runs_before [] g i d hg hs lt h = absurd (omega arith)
lt-runs_before (r ∷ rs) g zero d hg hs lt h = rw (runs_before, h) (omega arith)
lt-runs_before (r ∷ rs) g (suc i) d hg hs lt h =
    let there = each_before r rs i d hs.0 hs.1 hs.2 (omega arith) in
    let here = before_before r (get_or rs i d) g hg hs.0 there.1 there.0 h in
    let later = lt-runs_before rs g i d hg hs.2 (omega arith) h in
    rw (runs_before, here) (omega arith)

-- the same, for the run of the GTID by another name
pub place_le : (s : Gtids) (g : Gtid) (i : ℕ) (d wanted : Run) → wanted ≡ single g → i < length s → false ≡ before_run (get_or s i d) wanted → runs_before s g ≤ i
place_le s g i d wanted e lt h = runs_before-le s g i d lt (ap (before_run (get_or s i d)) (sym e) ∙ sym h)

pub place_gt : (s : Gtids) (g : Gtid) (i : ℕ) (d wanted : Run) → wanted ≡ single g → IsUuid g.source → IsCanonical s → i < length s → true ≡ before_run (get_or s i d) wanted → i < runs_before s g
place_gt s g i d wanted e hg hs lt h = lt-runs_before s g i d hg hs lt (ap (before_run (get_or s i d)) (sym e) ∙ sym h)

-- ---- what stands at the place

pub has_past : (s : Gtids) (g : Gtid) → IsUuid g.source → IsCanonical s → length s ≤ runs_before s g → has s g ≡ false
unfolding runs_before
has_past [] g hg hs le = refl
has_past (r ∷ rs) g hg hs le = by_test (λ h. has_past rs g hg hs.2 h) (before_run r (single g)) refl le
  where
    by_test : (length rs ≤ runs_before rs g → has rs g ≡ false) → (t : Bool) → t ≡ before_run r (single g) → suc (length rs) ≤ (elim t [ true ↦ suc (runs_before rs g) | false ↦ 0 ]) → (in_run g r || has rs g) ≡ false
    by_test later false e h = absurd (omega arith)
    by_test later true e h =
        let k = sym (before_single-key r g hs.0 hg) ∙ sym e in
        let here : in_run g r ≡ false = in_run-key g r hg hs.0 ∙ grind (arith, nat_tests, k) in
        or_from _ _ here (later (omega arith))

pub has_here : (s : Gtids) (g : Gtid) (d : Run) → IsUuid g.source → IsCanonical s → runs_before s g < length s → has s g ≡ in_run g (get_or s (runs_before s g) d)
unfolding runs_before
has_here [] g d hg hs lt = absurd (omega arith)
has_here (r ∷ rs) g d hg hs lt = by_test (λ h. has_here rs g d hg hs.2 h) (before_run r (single g)) refl lt
  where
    by_test : (runs_before rs g < length rs → has rs g ≡ in_run g (get_or rs (runs_before rs g) d)) → (t : Bool) → t ≡ before_run r (single g)
        → (elim t [ true ↦ suc (runs_before rs g) | false ↦ 0 ]) < suc (length rs) → (in_run g r || has rs g) ≡ in_run g (get_or (r ∷ rs) (elim t [ true ↦ suc (runs_before rs g) | false ↦ 0 ]) d)
    by_test later true e h =
        let k = sym (before_single-key r g hs.0 hg) ∙ sym e in
        let here : in_run g r ≡ false = in_run-key g r hg hs.0 ∙ grind (arith, nat_tests, k) in
        ap (λ t. t || has rs g) here ∙ later (omega arith)
    by_test later false e h =
        let k = sym (before_single-key r g hs.0 hg) ∙ sym e in
        elim (cases_Bool (has rs g)) [
          | inl t ↦ (let b = has_behind r rs g hg hs.0 hs.1 hs.2 t in absurd (false≢true (grind (arith, nat_tests, k, b))))
          | inr f ↦ (let side : (in_run g r || false) ≡ in_run g r = grind (arith, nat_tests) in ap (λ t. in_run g r || t) f ∙ side)
        ]

-- the run there isn't before the GTID
pub at_place : (s : Gtids) (g : Gtid) (d : Run) → runs_before s g < length s → before_run (get_or s (runs_before s g) d) (single g) ≡ false
unfolding runs_before
at_place [] g d lt = absurd (omega arith)
at_place (r ∷ rs) g d lt = by_test (at_place rs g d) (before_run r (single g)) refl lt
  where
    by_test : (runs_before rs g < length rs → before_run (get_or rs (runs_before rs g) d) (single g) ≡ false) → (t : Bool) → t ≡ before_run r (single g)
        → (elim t [ true ↦ suc (runs_before rs g) | false ↦ 0 ]) < suc (length rs) → before_run (get_or (r ∷ rs) (elim t [ true ↦ suc (runs_before rs g) | false ↦ 0 ]) d) (single g) ≡ false
    by_test later true e h = later (omega arith)
    by_test later false e h = sym e

-- putting the GTID in leaves what stands before the place
pub with_gtid_at : (s : Gtids) (g : Gtid) → IsUuid g.source → IsCanonical s → with_run s (single g) ≡ take (runs_before s g) s ++ with_run (drop (runs_before s g) s) (single g)
unfolding runs_before
with_gtid_at [] g hg hs = refl
with_gtid_at (r ∷ rs) g hg hs = by_test (with_gtid_at rs g hg hs.2) (before_run r (single g)) refl
  where
    there : before_run r (single g) ≡ true → before_run (single g) r ≡ false
    there h =
        let k = sym (before_single-key r g hs.0 hg) ∙ h in
        rw (bytes_eq-key g.source r.source hg hs.0.uuid, bytes_lt-key g.source r.source hg hs.0.uuid) (grind (arith, nat_tests, k, hs.0.ordered))

    by_test : (with_run rs (single g) ≡ take (runs_before rs g) rs ++ with_run (drop (runs_before rs g) rs) (single g)) → (t : Bool) → t ≡ before_run r (single g)
        → with_run (r ∷ rs) (single g) ≡ take (elim t [ true ↦ suc (runs_before rs g) | false ↦ 0 ]) (r ∷ rs) ++ with_run (drop (elim t [ true ↦ suc (runs_before rs g) | false ↦ 0 ]) (r ∷ rs)) (single g)
    by_test later false e = refl
    by_test later true e = with_run-after r rs (single g) (there (sym e)) (sym e) ∙ ap (λ xs. r ∷ xs) later

-- the answers of a look at the place
pub absent : (s : Gtids) (g : Gtid) (i : ℕ) → IsUuid g.source → IsCanonical s → i ≡ runs_before s g → length s ≤ i → false ≡ has s g
absent s g i hg hs e le = sym (has_past s g hg hs (omega (arith, e)))

pub looked : (s : Gtids) (g : Gtid) (i : ℕ) (x : Run) → IsUuid g.source → IsCanonical s → i ≡ runs_before s g → x ≡ get_or s i x → i < length s → in_run g x ≡ has s g
looked s g i x hg hs e ex lt = ap (in_run g) (ex ∙ ap (λ k. get_or s k x) e) ∙ sym (has_here s g x hg hs (omega (arith, e)))
