-- The membership tests of the operations, at any GTID.
use Rattle.std.proofs.Common.{◌≡◌, ℕ, ◌+◌, ◌≤◌, true, false, not, ◌&&◌, ◌||◌, ◌⊎◌, List, [], ◌∷◌, length, refl, sym, ap, subst, ◌∙◌, inl, inr, arith, eqb, leb}
use Rattle.std.specs.List.{list_any}
use Rattle.std.proofs.lemmas.Bool.{cases_Bool, cases_eq, cases_lt, false≢true, or_from, or_cases, or_left, or_right, and_from, and_left, and_parts, false_from_ne_true}
use Rattle.std.proofs.lemmas.Bool.Decides.{nat_tests}
use Rattle.std.specs.Cmp.Lexicographic.{same_text}
use Rattle.byte_forms.specs.Numbers.{are_bytes}
use Rattle.gr_ids.specs.declared.names.Gtid.{Gtid}
use Rattle.gr_ids.specs.Names.{gtid_eq}
use Rattle.std.specs.Str.{bytes_eq}
use Rattle.gtid_sets.specs.Sets.{Run, Gtids, single, in_run, has, with_gtid, union, meet, minus, covers, subset}
use Rattle.gtid_sets.specs.Canonical.{IsUuid, IsNumber, IsRun, IsCanonical}
use Rattle.gtid_sets.proofs.Keys.{bytes_eq-key, in_run-key}
use Rattle.gtid_sets.proofs.RunLemmas.{has_with_run}
use Rattle.gtid_sets.proofs.Members.{has_behind, at, same_members}
use Rattle.gtid_sets.proofs.UnionLemmas.{runs_of_canonical, has_union, canonical_union}
use Rattle.gtid_sets.proofs.PartLemmas.{has_meet, canonical_meet, has_minus, canonical_minus}
use Rattle.gtid_sets.proofs.PutLemmas.{canonical_with_gtid}

-- ---- a source is sixteen bytes, or no set has a GTID of it

uuid_or_not : (id : List ℕ) → IsUuid id ⊎ (IsUuid id → ⊥)
uuid_or_not id = elim (cases_eq (length id) 16) [
  | inl e ↦ elim (cases_Bool (are_bytes id)) [ inl b ↦ inl (record { long = e; bytes = b }) | inr f ↦ inr (λ h. false≢true (sym f ∙ h.bytes)) ]
  | inr other ↦ inr (λ h. other h.long)
]

pub none_of_source : (s : Gtids) (g : Gtid) → (IsUuid g.source → ⊥) → IsCanonical s → has s g ≡ false
none_of_source [] g n hs = refl
none_of_source (r ∷ rs) g n hs =
    let here : bytes_eq r.source g.source ≡ false = false_from_ne_true (bytes_eq r.source g.source) (λ t. n (subst IsUuid (same_text r.source g.source (sym t)) hs.0.uuid)) in
    or_from (in_run g r) (has rs g) (ap (λ t. t && (leb r.first g.number && leb g.number r.last)) here) (none_of_source rs g n hs.2)

pub all_union : (a b : Gtids) (g : Gtid) → IsCanonical a → IsCanonical b → has (union a b) g ≡ (has a g || has b g)
all_union a b g ha hb = elim (uuid_or_not g.source) [
  | inl hg ↦ has_union a b g hg ha (runs_of_canonical b hb)
  | inr n ↦ none_of_source (union a b) g n (canonical_union a b ha (runs_of_canonical b hb)) ∙ sym (or_from (has a g) (has b g) (none_of_source a g n ha) (none_of_source b g n hb))
]

pub all_meet : (a b : Gtids) (g : Gtid) → IsCanonical a → IsCanonical b → has (meet a b) g ≡ (has a g && has b g)
all_meet a b g ha hb = elim (uuid_or_not g.source) [
  | inl hg ↦ has_meet a b g hg ha hb
  | inr n ↦ none_of_source (meet a b) g n (canonical_meet a b ha hb) ∙ sym (and_left (has a g) (has b g) (none_of_source a g n ha))
]

pub all_minus : (a b : Gtids) (g : Gtid) → IsCanonical a → IsCanonical b → has (minus a b) g ≡ (has a g && not (has b g))
all_minus a b g ha hb = elim (uuid_or_not g.source) [
  | inl hg ↦ has_minus a b g hg ha hb
  | inr n ↦ none_of_source (minus a b) g n (canonical_minus a b ha hb) ∙ sym (and_left (has a g) (not (has b g)) (none_of_source a g n ha))
]

single_run : (g : Gtid) → IsUuid g.source → IsNumber g.number → IsRun (single g)
single_run g hg n = record { uuid = hg; positive = n.0; ordered = omega arith; bounded = n.1 }

in_single : (g m : Gtid) → in_run m (single g) ≡ gtid_eq g m
in_single g m = ap (λ t. bytes_eq g.source m.source && t) (let same : (leb g.number m.number && leb m.number g.number) ≡ eqb g.number m.number = grind (arith, nat_tests) in same)

pub all_with_gtid : (s : Gtids) (g m : Gtid) → IsCanonical s → IsUuid g.source → IsNumber g.number → has (with_gtid s g) m ≡ (gtid_eq g m || has s m)
all_with_gtid s g m hs hg n = elim (uuid_or_not m.source) [
  | inl hm ↦ has_with_run s (single g) m hm hs (single_run g hg n) ∙ ap (λ t. t || has s m) (in_single g m)
  | inr no_uuid ↦
      (let other : gtid_eq g m ≡ false = and_left (bytes_eq g.source m.source) (eqb g.number m.number) (false_from_ne_true (bytes_eq g.source m.source) (λ t. no_uuid (subst IsUuid (same_text g.source m.source (sym t)) hg))) in
      none_of_source (with_gtid s g) m no_uuid (canonical_with_gtid s g hg n hs) ∙ sym (or_from (gtid_eq g m) (has s m) other (none_of_source s m no_uuid hs)))
]

pub one_list : (s t : Gtids) → IsCanonical s → IsCanonical t → ((g : Gtid) → has s g ≡ has t g) → s ≡ t
one_list s t hs ht same = same_members s t hs ht (λ g hg. same g)

-- ---- a set has all that another one has

covered_has : (r q : Run) (g : Gtid) → covers r q ≡ true → in_run g r ≡ true → in_run g q ≡ true
covered_has r q g c h =
    let parts = and_parts (bytes_eq q.source r.source && leb q.first r.first) (leb r.last q.last) c in
    let front = and_parts (bytes_eq q.source r.source) (leb q.first r.first) parts.0 in
    let inside = and_parts (bytes_eq r.source g.source) (leb r.first g.number && leb g.number r.last) h in
    let source : q.source ≡ r.source = same_text q.source r.source (sym front.0) in
    and_from (bytes_eq q.source g.source) (leb q.first g.number && leb g.number q.last) (ap (λ s. bytes_eq s g.source) source ∙ inside.0) (grind (arith, nat_tests, parts.1, front.1, inside.1))

any_covered_has : (r : Run) (b : Gtids) (g : Gtid) → list_any (covers r) b ≡ true → in_run g r ≡ true → has b g ≡ true
any_covered_has r [] g c h = absurd (false≢true c)
any_covered_has r (q ∷ qs) g c h = elim (or_cases (covers r q) (list_any (covers r) qs) c) [
  | inl here ↦ or_left (in_run g q) (has qs g) (covered_has r q g here h)
  | inr there ↦ or_right (in_run g q) (has qs g) (any_covered_has r qs g there h)
]

pub subset_has : (a b : Gtids) (g : Gtid) → subset a b ≡ true → has a g ≡ true → has b g ≡ true
subset_has [] b g s h = absurd (false≢true h)
subset_has (r ∷ rs) b g s h =
    let parts = and_parts (list_any (covers r) b) (subset rs b) s in
    elim (or_cases (in_run g r) (has rs g) h) [
      | inl here ↦ any_covered_has r b g parts.0 here
      | inr there ↦ subset_has rs b g parts.1 there
    ]

run_covered : (r : Run) (b : Gtids) → IsRun r → IsCanonical b → ((n : ℕ) → r.first ≤ n → n ≤ r.last → has b (at r n) ≡ true) → list_any (covers r) b ≡ true
run_covered r [] hr hb all = absurd (false≢true (all r.first (omega arith) hr.ordered))
run_covered r (q ∷ qs) hr hb all = elim (or_cases (in_run (at r r.first) q) (has qs (at r r.first)) (all r.first (omega arith) hr.ordered)) [
  | inl here ↦ or_left (covers r q) (list_any (covers r) qs) (covers_from here)
  | inr there ↦ or_right (covers r q) (list_any (covers r) qs) (run_covered r qs hr hb.2 (λ n low high. elim (or_cases (in_run (at r n) q) (has qs (at r n)) (all n low high)) [
    | inl within ↦
        (let b = has_behind q qs (at r r.first) hr.uuid hb.0 hb.1 hb.2 there in
        let k = sym (in_run-key (at r n) q hr.uuid hb.0) ∙ within in
        absurd (false≢true (grind (arith, nat_tests, b, k))))
    | inr behind ↦ behind
  ]))
]
  where
    covers_from : in_run (at r r.first) q ≡ true → covers r q ≡ true
    covers_from here =
        let k = sym (in_run-key (at r r.first) q hr.uuid hb.0) ∙ here in
        let ks = bytes_eq-key q.source r.source hb.0.uuid hr.uuid in
        let last : r.last ≤ q.last = elim (cases_lt q.last r.last) [
          | inl lt ↦ elim (or_cases (in_run (at r (q.last + 1)) q) (has qs (at r (q.last + 1))) (all (q.last + 1) (grind (arith, nat_tests, k)) (omega arith))) [
            | inl in_q ↦ (let kq = sym (in_run-key (at r (q.last + 1)) q hr.uuid hb.0) ∙ in_q in absurd (false≢true (grind (arith, nat_tests, kq))))
            | inr in_qs ↦ (let b = has_behind q qs (at r (q.last + 1)) hr.uuid hb.0 hb.1 hb.2 in_qs in absurd (false≢true (grind (arith, nat_tests, b, k))))
          ]
          | inr le ↦ le
        ] in
        grind (arith, nat_tests, k, ks, last)

pub has_subset : (a b : Gtids) → IsCanonical a → IsCanonical b → ((g : Gtid) → has a g ≡ true → has b g ≡ true) → subset a b ≡ true
has_subset [] b ha hb all = refl
has_subset (r ∷ rs) b ha hb all = and_from (list_any (covers r) b) (subset rs b)
    (run_covered r b ha.0 hb (λ n low high. all (at r n) (or_left (in_run (at r n) r) (has rs (at r n)) (in_run-key (at r n) r ha.0.uuid ha.0 ∙ grind (arith, nat_tests)))))
    (has_subset rs b ha.2 hb (λ g h. all g (or_right (in_run g r) (has rs g) h)))
