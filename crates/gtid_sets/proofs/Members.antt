-- Two canonical sets with the same members are one list of runs.
use Rattle.std.proofs.Common.{◌≡◌, ℕ, ◌+◌, ◌<◌, ◌≤◌, Bool, true, false, cond, ◌||◌, ◌⊎◌, [], ◌∷◌, refl, sym, ap, ◌∙◌, inl, inr, arith, eqb, ltb}
use Rattle.std.proofs.lemmas.Bool.{cases_Bool, cases_order, cases_lt, false≢true, or_cases, or_left}
use Rattle.std.proofs.lemmas.Bool.Decides.{nat_tests}
use Rattle.byte_forms.specs.Numbers.{number_of}
use Rattle.byte_forms.proofs.NumberLemmas.{same_bytes}
use Rattle.gr_ids.specs.declared.names.Gtid.{Gtid}
use Rattle.gtid_sets.specs.Sets.{Run, Gtids, in_run, has, before_run}
use Rattle.gtid_sets.specs.Canonical.{IsUuid, IsRun, IsBefore, IsCanonical}
use Rattle.gtid_sets.proofs.Keys.{in_run-key, before_run-key}
use Rattle.gtid_sets.proofs.RunLemmas.{before_head}

-- whether a GTID stands behind a run, with a gap between
abbrev pub beyond : Run → Gtid → Bool
beyond r g = cond (eqb (number_of r.source) (number_of g.source)) (ltb (r.last + 1) g.number) (ltb (number_of r.source) (number_of g.source))

pub beyond_behind : (r s : Run) (g : Gtid) → IsUuid g.source → IsRun r → IsRun s → before_run r s ≡ true → in_run g s ≡ true → beyond r g ≡ true
beyond_behind r s g hg hr hs p h =
    let kp = sym (before_run-key r s hr hs) ∙ p in
    let kh = sym (in_run-key g s hg hs) ∙ h in
    grind (arith, nat_tests, kp, kh)

pub has_behind : (r : Run) (s : Gtids) (g : Gtid) → IsUuid g.source → IsRun r → IsBefore r s → IsCanonical s → has s g ≡ true → beyond r g ≡ true
has_behind r [] g hg hr p hs h = absurd (false≢true h)
has_behind r (s ∷ ss) g hg hr p hs h =
    elim (or_cases (in_run g s) (has ss g) h) [
      | inl here ↦ beyond_behind r s g hg hr hs.0 p here
      | inr there ↦ has_behind r ss g hg hr (before_head r s ss hr p hs) hs.2 there
    ]

pub not_both : (r : Run) (s : Gtids) (g : Gtid) → IsUuid g.source → IsRun r → IsBefore r s → IsCanonical s → in_run g r ≡ true → has s g ≡ false
not_both r s g hg hr p hs h =
    elim (cases_Bool (has s g)) [
      | inl t ↦ (let b = has_behind r s g hg hr p hs t in let k = sym (in_run-key g r hg hr) ∙ h in absurd (false≢true (grind (arith, nat_tests, b, k))))
      | inr f ↦ f
    ]

abbrev pub at : Run → ℕ → Gtid
at r n = record { source = r.source; number = n }

-- where the members of r ∷ rs are members of q ∷ qs, r begins no earlier, and ends no later where they begin alike
record Within (r q : Run) : Type 0 where
  begins : (number_of q.source < number_of r.source) ⊎ ((number_of q.source ≡ number_of r.source) × (q.first ≤ r.first))
  ends : number_of q.source ≡ number_of r.source → q.first ≤ r.first → r.first ≤ q.last + 1 → r.last ≤ q.last

within : (r q : Run) (qs : Gtids) → IsRun r → IsCanonical (q ∷ qs) → ((g : Gtid) → IsUuid g.source → in_run g r ≡ true → has (q ∷ qs) g ≡ true) → Within r q
within r q qs hr ht sub = record { begins = start; ends = end }
  where
    found : (n : ℕ) → r.first ≤ n → n ≤ r.last → (in_run (at r n) q ≡ true) ⊎ (beyond q (at r n) ≡ true)
    found n low high =
        let inside : in_run (at r n) r ≡ true = in_run-key (at r n) r hr.uuid hr ∙ grind (arith, nat_tests) in
        elim (or_cases (in_run (at r n) q) (has qs (at r n)) (sub (at r n) hr.uuid inside)) [
          | inl here ↦ inl here
          | inr there ↦ inr (has_behind q qs (at r n) hr.uuid ht.0 ht.1 ht.2 there)
        ]

    start : (number_of q.source < number_of r.source) ⊎ ((number_of q.source ≡ number_of r.source) × (q.first ≤ r.first))
    start = elim (found r.first (omega arith) hr.ordered) [
      | inl here ↦ (let k = sym (in_run-key (at r r.first) q hr.uuid ht.0) ∙ here in inr (grind (arith, nat_tests, k), grind (arith, nat_tests, k)))
      | inr there ↦ elim (cases_order (number_of q.source) (number_of r.source)) [
        | inl e ↦ inr (e, grind (arith, nat_tests, there, ht.0.ordered))
        | inr (inl lt) ↦ inl lt
        | inr (inr gt) ↦ absurd (false≢true (grind (arith, nat_tests, there)))
      ]
    ]

    end : number_of q.source ≡ number_of r.source → q.first ≤ r.first → r.first ≤ q.last + 1 → r.last ≤ q.last
    end e low high = elim (cases_lt q.last r.last) [
      | inl lt ↦ elim (found (q.last + 1) (omega arith) (omega arith)) [
        | inl here ↦ (let k = sym (in_run-key (at r (q.last + 1)) q hr.uuid ht.0) ∙ here in absurd (false≢true (grind (arith, nat_tests, k))))
        | inr there ↦ absurd (false≢true (grind (arith, nat_tests, there)))
      ]
      | inr le ↦ le
    ]

same_run : (r q : Run) → IsRun r → IsRun q → Within r q → Within q r → r ≡ q
same_run r q hr hq f b =
    let keys : (number_of r.source ≡ number_of q.source) × (r.first ≡ q.first) = elim f.begins [
      | inl lt ↦ elim b.begins [ inl gt ↦ absurd (omega arith) | inr e ↦ absurd (omega (arith, e.0)) ]
      | inr e ↦ elim b.begins [ inl gt ↦ absurd (omega (arith, e.0)) | inr d ↦ (sym e.0, omega (arith, e.1, d.1)) ]
    ] in
    let source : r.source ≡ q.source = same_bytes r.source q.source (hr.uuid.long ∙ sym hq.uuid.long) hr.uuid.bytes hq.uuid.bytes keys.0 in
    let first : r.first ≡ q.first = keys.1 in
    let up : r.last ≤ q.last = f.ends (sym keys.0) (omega (arith, first)) (omega (arith, first, hq.ordered)) in
    let down : q.last ≤ r.last = b.ends keys.0 (omega (arith, first)) (omega (arith, first, hr.ordered)) in
    let last : r.last ≡ q.last = omega arith in
    record_same r q source first last
  where
    record_same : (r q : Run) → r.source ≡ q.source → r.first ≡ q.first → r.last ≡ q.last → r ≡ q
    record_same r q a b c = λ i. record { source = a i; first = b i; last = c i }

first_member : (r : Run) (rs : Gtids) → IsRun r → has (r ∷ rs) (at r r.first) ≡ true
first_member r rs hr = or_left (in_run (at r r.first) r) (has rs (at r r.first)) (in_run-key (at r r.first) r hr.uuid hr ∙ grind (arith, nat_tests, hr.ordered))

pub same_members : (s t : Gtids) → IsCanonical s → IsCanonical t → ((g : Gtid) → IsUuid g.source → has s g ≡ has t g) → s ≡ t
same_members [] [] hs ht same = refl
same_members [] (q ∷ qs) hs ht same = absurd (false≢true (same (at q q.first) ht.0.uuid ∙ first_member q qs ht.0))
same_members (r ∷ rs) [] hs ht same = absurd (false≢true (sym (same (at r r.first) hs.0.uuid) ∙ first_member r rs hs.0))
same_members (r ∷ rs) (q ∷ qs) hs ht same =
    let heads : r ≡ q = same_run r q hs.0 ht.0
    (within r q qs hs.0 ht (λ g hg h. sym (same g hg) ∙ or_left _ _ h))
    (within q r rs ht.0 hs (λ g hg h. same g hg ∙ or_left _ _ h)) in
    let tails : rs ≡ qs = same_members rs qs hs.2 ht.2 (λ g hg. behind g hg heads) in
    cc
  where
    behind : (g : Gtid) → IsUuid g.source → r ≡ q → has rs g ≡ has qs g
    behind g hg e = elim (cases_Bool (in_run g r)) [
      | inl here ↦ not_both r rs g hg hs.0 hs.1 hs.2 here ∙ sym (not_both q qs g hg ht.0 ht.1 ht.2 (ap (in_run g) (sym e) ∙ here))
      | inr out ↦
          (let left : has (r ∷ rs) g ≡ has rs g = ap (λ t. t || has rs g) out in
          let right : has (q ∷ qs) g ≡ has qs g = ap (λ t. t || has qs g) (ap (in_run g) (sym e) ∙ out) in
          sym left ∙ same g hg ∙ right)
    ]
