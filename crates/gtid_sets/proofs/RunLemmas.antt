-- A run put into a set.
use Rattle.std.proofs.Common.{◌≡◌, ℕ, zero, suc, get_or, drop, ◌+◌, ◌<◌, ◌≤◌, Bool, true, false, ◌||◌, [], ◌∷◌, length, refl, sym, ◌∙◌, arith}
use Rattle.std.proofs.lemmas.Bool.Decides.{nat_tests}
use Rattle.byte_forms.specs.Numbers.{number_of}
use Rattle.gr_ids.specs.declared.names.Gtid.{Gtid}
use Rattle.gtid_sets.specs.Sets.{Run, Gtids, in_run, has, before_run, joined, with_run}
use Rattle.gtid_sets.specs.Canonical.{IsUuid, IsRun, IsBefore, IsCanonical}
use Rattle.gtid_sets.proofs.Keys.{in_run-key, before_run-key}

-- neither stands before the other with a gap between: they are of one source, and touch or overlap
pub record Touch (a b : Run) : Type 0 where
  pub source : number_of a.source ≡ number_of b.source
  pub left : a.first ≤ b.last + 1
  pub right : b.first ≤ a.last + 1

pub touch : (a b : Run) → IsRun a → IsRun b → before_run a b ≡ false → before_run b a ≡ false → Touch a b
touch a b ha hb na nb =
    let ka = sym (before_run-key a b ha hb) ∙ na in
    let kb = sym (before_run-key b a hb ha) ∙ nb in
    record { source = grind (arith, nat_tests, ka, kb); left = grind (arith, nat_tests, ka, kb); right = grind (arith, nat_tests, ka, kb) }

pub joined_run : (a b : Run) → IsRun a → IsRun b → Touch a b → IsRun (joined a b)
joined_run a b ha hb t = record {
  uuid = ha.uuid;
  positive = grind (arith, nat_tests, ha.positive, hb.positive);
  ordered = grind (arith, nat_tests, ha.ordered, hb.ordered);
  bounded = grind (arith, nat_tests, ha.bounded, hb.bounded);
}

in_joined : (g : Gtid) (a b : Run) → IsUuid g.source → IsRun a → IsRun b → Touch a b → in_run g (joined a b) ≡ (in_run g a || in_run g b)
in_joined g a b hg ha hb t =
    let ka = in_run-key g a hg ha in
    let kb = in_run-key g b hg hb in
    let kj = in_run-key g (joined a b) hg (joined_run a b ha hb t) in
    kj ∙ grind (arith, nat_tests, ka, kb, t.source, t.left, t.right)

-- ---- what stands before what

pub before_trans : (a b c : Run) → IsRun a → IsRun b → IsRun c → before_run a b ≡ true → before_run b c ≡ true → before_run a c ≡ true
before_trans a b c ha hb hc p q =
    let kp = sym (before_run-key a b ha hb) ∙ p in
    let kq = sym (before_run-key b c hb hc) ∙ q in
    before_run-key a c ha hc ∙ grind (arith, nat_tests, kp, kq, hb.ordered)

pub before_head : (r s : Run) (rs : Gtids) → IsRun r → before_run r s ≡ true → IsCanonical (s ∷ rs) → IsBefore r rs
before_head r s [] hr p h = tt
before_head r s (t ∷ rs) hr p h = before_trans r s t hr h.0 h.2.0 p h.1

pub before_joined : (r a b : Run) → IsRun r → IsRun a → IsRun b → Touch a b → before_run r a ≡ true → before_run r b ≡ true → before_run r (joined a b) ≡ true
before_joined r a b hr ha hb t p q =
    let kp = sym (before_run-key r a hr ha) ∙ p in
    let kq = sym (before_run-key r b hr hb) ∙ q in
    before_run-key r (joined a b) hr (joined_run a b ha hb t) ∙ grind (arith, nat_tests, kp, kq, t.source)

-- ---- putting a run into a set

pub has_with_run : (s : Gtids) (a : Run) (g : Gtid) → IsUuid g.source → IsCanonical s → IsRun a → has (with_run s a) g ≡ (in_run g a || has s g)
has_with_run [] a g hg hs ha = refl
has_with_run (r ∷ rs) a g hg hs ha = by_tests (has_with_run rs a g hg hs.2 ha) (λ t. has_with_run rs (joined a r) g hg hs.2 (joined_run a r ha hs.0 t)) (before_run a r) (before_run r a) refl refl
  where
    by_tests : (has (with_run rs a) g ≡ (in_run g a || has rs g)) → (Touch a r → has (with_run rs (joined a r)) g ≡ (in_run g (joined a r) || has rs g)) → (p q : Bool) → p ≡ before_run a r → q ≡ before_run r a
        → has (elim p [ true ↦ a ∷ r ∷ rs | false ↦ elim q [ true ↦ r ∷ with_run rs a | false ↦ with_run rs (joined a r) ] ]) g ≡ (in_run g a || (in_run g r || has rs g))
    by_tests later over true q ep eq = refl
    by_tests later over false true ep eq = rw later (grind (arith, nat_tests))
    by_tests later over false false ep eq =
        let t = touch a r ha hs.0 (sym ep) (sym eq) in
        over t ∙ rw (in_joined g a r hg ha hs.0 t) (grind (arith, nat_tests))

before_with_run : (r : Run) (s : Gtids) (a : Run) → IsRun r → IsBefore r s → IsCanonical s → before_run r a ≡ true → IsRun a → IsBefore r (with_run s a)
before_with_run r [] a hr p hs q ha = q
before_with_run r (s ∷ ss) a hr p hs q ha = by_tests (λ t. before_with_run r ss (joined a s) hr (before_head r s ss hr p hs) hs.2 (before_joined r a s hr ha hs.0 t q p) (joined_run a s ha hs.0 t)) (before_run a s) (before_run s a) refl refl
  where
    by_tests : (Touch a s → IsBefore r (with_run ss (joined a s))) → (x y : Bool) → x ≡ before_run a s → y ≡ before_run s a
        → IsBefore r (elim x [ true ↦ a ∷ s ∷ ss | false ↦ elim y [ true ↦ s ∷ with_run ss a | false ↦ with_run ss (joined a s) ] ])
    by_tests over true y ex ey = q
    by_tests over false true ex ey = p
    by_tests over false false ex ey = over (touch a s ha hs.0 (sym ex) (sym ey))

pub canonical_with_run : (s : Gtids) (a : Run) → IsCanonical s → IsRun a → IsCanonical (with_run s a)
canonical_with_run [] a hs ha = (ha, tt, tt)
canonical_with_run (r ∷ rs) a hs ha = by_tests (canonical_with_run rs a hs.2 ha) (λ t. canonical_with_run rs (joined a r) hs.2 (joined_run a r ha hs.0 t)) (before_run a r) (before_run r a) refl refl
  where
    by_tests : IsCanonical (with_run rs a) → (Touch a r → IsCanonical (with_run rs (joined a r))) → (p q : Bool) → p ≡ before_run a r → q ≡ before_run r a
        → IsCanonical (elim p [ true ↦ a ∷ r ∷ rs | false ↦ elim q [ true ↦ r ∷ with_run rs a | false ↦ with_run rs (joined a r) ] ])
    by_tests later over true q ep eq = (ha, sym ep, hs)
    by_tests later over false true ep eq = (hs.0, before_with_run r rs a hs.0 hs.1 hs.2 (sym eq) ha, later)
    by_tests later over false false ep eq = over (touch a r ha hs.0 (sym ep) (sym eq))

-- ---- the three cases

pub with_run-before : (r : Run) (rs : Gtids) (a : Run) → before_run a r ≡ true → with_run (r ∷ rs) a ≡ a ∷ r ∷ rs
with_run-before r rs a h = rw (with_run, h) refl

pub with_run-after : (r : Run) (rs : Gtids) (a : Run) → before_run a r ≡ false → before_run r a ≡ true → with_run (r ∷ rs) a ≡ r ∷ with_run rs a
with_run-after r rs a h k = rw (with_run, h, k) refl

pub with_run-touch : (r : Run) (rs : Gtids) (a : Run) → before_run a r ≡ false → before_run r a ≡ false → with_run (r ∷ rs) a ≡ with_run rs (joined a r)
with_run-touch r rs a h k = rw (with_run, h, k) refl

-- ---- the runs behind some of them

pub canonical_drop : (s : Gtids) (i : ℕ) → IsCanonical s → IsCanonical (drop i s)
canonical_drop s zero h = h
canonical_drop [] (suc i) h = tt
canonical_drop (r ∷ rs) (suc i) h = canonical_drop rs i h.2

pub run_at : (s : Gtids) (i : ℕ) (d : Run) → i < length s → IsCanonical s → IsRun (get_or s i d)
run_at [] i d lt h = absurd (omega arith)
run_at (r ∷ rs) zero d lt h = h.0
run_at (r ∷ rs) (suc i) d lt h = run_at rs i d (omega arith) h.2
