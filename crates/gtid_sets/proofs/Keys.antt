-- A UUID as a number: two UUIDs are one, or in order, as their numbers are. So a test on runs is one on numbers.
use Rattle.std.proofs.Common.{◌≡◌, ℕ, ◌+◌, ◌*◌, ◌^◌, ◌<◌, true, cond, ◌&&◌, List, [], ◌∷◌, length, refl, sym, ap, subst, ◌∙◌, inl, inr, arith, eqb, ltb, leb, Some}
use Rattle.std.proofs.lemmas.Bool.{cases_Bool, and_parts, eqb-true, eqb-false, ne_eqb, lt-ltb, le-ltb, cases_order, false_from_ne_true}
use Rattle.std.proofs.lemmas.Bool.Decides.{nat_tests}
use Rattle.std.proofs.lemmas.Cmp.{tied_itself, nat_cmp_total}
use Rattle.std.specs.Ordering.{nat_cmp, is_lt, is_some_and, partial_lt}
use Rattle.std.specs.Cmp.Lexicographic.{slice_partial_cmp, lists_agrees, same_text, nat_list_eq_equiv}
use Rattle.byte_forms.specs.Numbers.{number_of, are_bytes}
use Rattle.byte_forms.proofs.NumberLemmas.{same_bytes, number_of-below}
use Rattle.gr_ids.specs.declared.names.Gtid.{Gtid}
use Rattle.gr_ids.specs.Names.{bytes_lt}
use Rattle.std.specs.Str.{bytes_eq}
use Rattle.gtid_sets.specs.Sets.{Run, in_run, before_run}
use Rattle.gtid_sets.specs.Canonical.{IsUuid, IsRun}

bytes_eq_same : (x : List ℕ) → bytes_eq x x ≡ true
bytes_eq_same x = nat_list_eq_equiv.refl x

pub bytes_eq-key : (x y : List ℕ) → IsUuid x → IsUuid y → bytes_eq x y ≡ eqb (number_of x) (number_of y)
bytes_eq-key x y hx hy =
    elim (cases_Bool (eqb (number_of x) (number_of y))) [
      | inl e ↦ (let same : x ≡ y = same_bytes x y (hx.long ∙ sym hy.long) hx.bytes hy.bytes (eqb-true _ _ e) in subst (λ (z : List ℕ). bytes_eq x z ≡ true) same (bytes_eq_same x) ∙ sym e)
      | inr e ↦ false_from_ne_true (bytes_eq x y) (λ t. eqb-false _ _ e (ap number_of (same_text x y (sym t)))) ∙ sym e
    ]

below_heads : (x y p xs ys : ℕ) → xs < p → ys < p → (x < y) → x * p + xs < y * p + ys
below_heads x y p xs ys hx hy lt = grind arith

lt_by_keys : (x y : List ℕ) → length x ≡ length y → are_bytes x ≡ true → are_bytes y ≡ true → bytes_lt x y ≡ ltb (number_of x) (number_of y)
unfolding number_of
lt_by_keys [] [] long hx hy = refl
lt_by_keys [] (y ∷ ys) long hx hy = absurd (omega arith)
lt_by_keys (x ∷ xs) [] long hx hy = absurd (omega arith)
lt_by_keys (x ∷ xs) (y ∷ ys) long hx hy =
    let px = and_parts _ _ hx in
    let py = and_parts _ _ hy in
    let same : length xs ≡ length ys = omega arith in
    let later = lt_by_keys xs ys same px.1 py.1 in
    let bx : number_of xs < 256 ^ length ys = subst (λ (k : ℕ). number_of xs < 256 ^ k) same (number_of-below xs px.1) in
    let by = number_of-below ys py.1 in
    let to : ltb (x * 256 ^ length ys + number_of xs) (y * 256 ^ length ys + number_of ys) ≡ ltb (x * 256 ^ length xs + number_of xs) (y * 256 ^ length ys + number_of ys) = ap (λ k. ltb (x * 256 ^ k + number_of xs) (y * 256 ^ length ys + number_of ys)) (sym same) in
    elim (cases_order x y) [
      | inl e ↦ subst (λ (z : ℕ). bytes_lt (x ∷ xs) (z ∷ ys) ≡ ltb (x * 256 ^ length xs + number_of xs) (z * 256 ^ length ys + number_of ys)) e (rw (tied_itself nat_cmp_total x, later) (grind (arith, nat_tests, to)))
      | inr (inl lt) ↦ rw (lt-ltb x y lt) (sym (sym to ∙ lt-ltb _ _ (below_heads x y (256 ^ length ys) (number_of xs) (number_of ys) bx by lt)))
      | inr (inr gt) ↦ (let above = below_heads y x (256 ^ length ys) (number_of ys) (number_of xs) by bx gt in rw (le-ltb x y (omega arith), ne_eqb x y (λ e. omega arith)) (sym (sym to ∙ le-ltb _ _ (omega arith))))
    ]

pub bytes_lt-key : (x y : List ℕ) → IsUuid x → IsUuid y → bytes_lt x y ≡ ltb (number_of x) (number_of y)
bytes_lt-key x y hx hy = lt_by_keys x y (hx.long ∙ sym hy.long) hx.bytes hy.bytes

-- ---- tests on runs, as tests on numbers

pub in_run-key : (g : Gtid) (r : Run) → IsUuid g.source → IsRun r → in_run g r ≡ (eqb (number_of r.source) (number_of g.source) && (leb r.first g.number && leb g.number r.last))
in_run-key g r hg hr = ap (λ t. t && (leb r.first g.number && leb g.number r.last)) (bytes_eq-key r.source g.source hr.uuid hg)

pub before_run-key : (a b : Run) → IsRun a → IsRun b → before_run a b ≡ cond (eqb (number_of a.source) (number_of b.source)) (ltb (a.last + 1) b.first) (ltb (number_of a.source) (number_of b.source))
before_run-key a b ha hb = rw (bytes_eq-key a.source b.source ha.uuid hb.uuid, bytes_lt-key a.source b.source ha.uuid hb.uuid) refl

-- `<` of two arrays of bytes
pub array_lt : (x y : List ℕ) → partial_lt (slice_partial_cmp (λ (a b : ℕ). Some (nat_cmp a b))) x y ≡ bytes_lt x y
array_lt x y = ap (is_some_and is_lt) (lists_agrees {R = nat_cmp} (λ a b. refl) x y)
