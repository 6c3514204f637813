-- The steps of a walk over the runs of two sets side by side.
use Rattle.std.proofs.Common.{◌≡◌, ℕ, zero, suc, ◌+◌, ◌-◌, ◌*◌, ◌<◌, ◌≤◌, Bool, true, false, cond, ◌&&◌, ◌||◌, ◌⊎◌, [], ◌∷◌, ◌++◌, length, get_or, take, drop, refl, sym, ap, subst, ◌∙◌, inl, inr, arith, eqb, ltb, leb, append_assoc}
use Rattle.std.specs.List.{flat_map, list_any}
use Rattle.std.proofs.lemmas.Bool.{false≢true, or_from, lt-ltb, le-ltb}
use Rattle.std.proofs.lemmas.Bool.Decides.{nat_tests}
use Rattle.std.proofs.lemmas.List.{drop_more, drop_all, append-nil}
use Rattle.byte_forms.specs.Numbers.{number_of}
use Rattle.std.specs.Str.{bytes_eq}
use Rattle.gtid_sets.specs.Sets.{Run, Gtids, before_run, common, meet, below, above, cut_out, minus, covers, subset, count_of}
use Rattle.gtid_sets.specs.Canonical.{IsRun, IsBefore, IsCanonical}
use Rattle.gtid_sets.specs.Places.{precedes, ends_first}
use Rattle.gtid_sets.proofs.Keys.{bytes_eq-key, bytes_lt-key, before_run-key}
use Rattle.gtid_sets.proofs.RunLemmas.{before_head, canonical_drop}

-- ---- where runs end

pub precedes-key : (a b : Run) → IsRun a → IsRun b → precedes a b ≡ cond (eqb (number_of a.source) (number_of b.source)) (ltb a.last b.first) (ltb (number_of a.source) (number_of b.source))
precedes-key a b ha hb = rw (bytes_eq-key a.source b.source ha.uuid hb.uuid, bytes_lt-key a.source b.source ha.uuid hb.uuid) refl

pub ends_first-key : (a b : Run) → IsRun a → IsRun b → ends_first a b ≡ cond (eqb (number_of a.source) (number_of b.source)) (ltb a.last b.last) (ltb (number_of a.source) (number_of b.source))
ends_first-key a b ha hb = rw (bytes_eq-key a.source b.source ha.uuid hb.uuid, bytes_lt-key a.source b.source ha.uuid hb.uuid) refl

precedes_before : (a b c : Run) → IsRun a → IsRun b → IsRun c → precedes a b ≡ true → before_run b c ≡ true → precedes a c ≡ true
precedes_before a b c ha hb hc p q =
    let kp = sym (precedes-key a b ha hb) ∙ p in
    let kq = sym (before_run-key b c hb hc) ∙ q in
    precedes-key a c ha hc ∙ grind (arith, nat_tests, kp, kq, hb.ordered)

-- one that doesn't end behind another one precedes those behind that one
ends_before : (a b c : Run) → IsRun a → IsRun b → IsRun c → ends_first b a ≡ false → before_run b c ≡ true → precedes a c ≡ true
ends_before a b c ha hb hc p q =
    let kp = sym (ends_first-key b a hb ha) ∙ p in
    let kq = sym (before_run-key b c hb hc) ∙ q in
    precedes-key a c ha hc ∙ grind (arith, nat_tests, kp, kq)

ends_first_before : (a b c : Run) → IsRun a → IsRun b → IsRun c → ends_first a b ≡ true → before_run b c ≡ true → precedes a c ≡ true
ends_first_before a b c ha hb hc p q =
    let kp = sym (ends_first-key a b ha hb) ∙ p in
    let kq = sym (before_run-key b c hb hc) ∙ q in
    precedes-key a c ha hc ∙ grind (arith, nat_tests, kp, kq)

-- ---- what both have

meets : Run → Run → Bool
meets r b = bytes_eq r.source b.source && leb (cond (ltb r.first b.first) b.first r.first) (cond (ltb r.last b.last) r.last b.last)

common_none : (a b : Run) → meets a b ≡ false → common a b ≡ []
unfolding meets
common_none a b h = rw h refl

nothing_common : (a b : Run) → IsRun a → IsRun b → precedes a b ≡ true → common a b ≡ []
unfolding meets
nothing_common a b ha hb p =
    let kp = sym (precedes-key a b ha hb) ∙ p in
    let ks = bytes_eq-key a.source b.source ha.uuid hb.uuid in
    common_none a b (grind (arith, nat_tests, kp, ks, ha.ordered, hb.ordered))

nothing_common_back : (a b : Run) → IsRun a → IsRun b → precedes b a ≡ true → common a b ≡ []
unfolding meets
nothing_common_back a b ha hb p =
    let kp = sym (precedes-key b a hb ha) ∙ p in
    let ks = bytes_eq-key a.source b.source ha.uuid hb.uuid in
    common_none a b (grind (arith, nat_tests, kp, ks, ha.ordered, hb.ordered))

nothing_behind : (r q : Run) (qs : Gtids) → IsRun r → IsRun q → IsCanonical qs → IsBefore q qs → ends_first r q ≡ true → flat_map (common r) qs ≡ []
nothing_behind r q [] hr hq hs b p = refl
nothing_behind r q (t ∷ ts) hr hq hs b p =
    rw (nothing_common r t hr hs.0 (ends_first_before r q t hr hq hs.0 p b), nothing_behind r q ts hr hq hs.2 (before_head q t ts hq b hs) p) refl

pub meet_left : (r q : Run) (rs qs : Gtids) → IsCanonical (r ∷ rs) → IsCanonical (q ∷ qs) → ends_first r q ≡ true → meet (r ∷ rs) (q ∷ qs) ≡ common r q ++ meet rs (q ∷ qs)
meet_left r q rs qs hr hq p =
    let none = nothing_behind r q qs hr.0 hq.0 hq.2 hq.1 p in
    ap (λ xs. (common r q ++ xs) ++ meet rs (q ∷ qs)) none ∙ ap (λ xs. xs ++ meet rs (q ∷ qs)) (append-nil (common r q))

nothing_of : (r q : Run) (rs qs : Gtids) → IsRun r → IsRun q → IsCanonical rs → IsBefore r rs → ends_first r q ≡ false → meet rs (q ∷ qs) ≡ meet rs qs
nothing_of r q [] qs hr hq hs b p = refl
nothing_of r q (t ∷ ts) qs hr hq hs b p =
    rw (nothing_common_back t q hs.0 hq (ends_before q r t hq hr hs.0 p b), nothing_of r q ts qs hr hq hs.2 (before_head r t ts hr b hs) p) refl

pub meet_right : (r q : Run) (rs qs : Gtids) → IsCanonical (r ∷ rs) → IsCanonical (q ∷ qs) → ends_first r q ≡ false → meet (r ∷ rs) (q ∷ qs) ≡ common r q ++ meet (r ∷ rs) qs
meet_right r q rs qs hr hq p =
    ap (λ xs. (common r q ++ flat_map (common r) qs) ++ xs) (nothing_of r q rs qs hr.0 hq.0 hr.2 hr.1 p) ∙ append_assoc (common r q) (flat_map (common r) qs) (meet rs qs)

pub meet_nil : (a : Gtids) → meet a [] ≡ []
meet_nil [] = refl
meet_nil (r ∷ rs) = meet_nil rs

-- ---- what the first has and the second hasn't

flat_map-append : (f : Run → Gtids) (xs ys : Gtids) → flat_map f (xs ++ ys) ≡ flat_map f xs ++ flat_map f ys
flat_map-append f [] ys = refl
flat_map-append f (x ∷ xs) ys = ap (λ zs. f x ++ zs) (flat_map-append f xs ys) ∙ sym (append_assoc (f x) (flat_map f xs) (flat_map f ys))

pub minus-append : (xs ys b : Gtids) → minus (xs ++ ys) b ≡ minus xs b ++ minus ys b
minus-append xs ys [] = refl
minus-append xs ys (b ∷ bs) = ap (λ zs. minus zs bs) (flat_map-append (cut_out b) xs ys) ∙ minus-append (flat_map (cut_out b) xs) (flat_map (cut_out b) ys) bs

pub minus_nil : (b : Gtids) → minus [] b ≡ []
minus_nil [] = refl
minus_nil (b ∷ bs) = minus_nil bs

-- a cut before a run leaves it
cut_before : (q r : Run) → IsRun q → IsRun r → precedes q r ≡ true → cut_out q r ≡ r ∷ []
cut_before q r hq hr p = by_tests (bytes_eq r.source q.source) (ltb r.first q.first) (ltb q.last r.last) (ltb q.last r.first) refl refl refl refl
  where
    by_tests : (t s u v : Bool) → t ≡ bytes_eq r.source q.source → s ≡ ltb r.first q.first → u ≡ ltb q.last r.last → v ≡ ltb q.last r.first
        → cond t (cond s (record r { last = cond (ltb r.last q.first) r.last (q.first - 1) } ∷ []) [] ++ cond u (record r { first = cond v r.first (q.last + 1) } ∷ []) []) (r ∷ []) ≡ r ∷ []
    by_tests false s u v et es eu ev = refl
    by_tests true false true true et es eu ev = refl
    by_tests true s u v et es eu ev = absurd (false≢true (let kp = sym (precedes-key q r hq hr) ∙ p in let ks = bytes_eq-key r.source q.source hr.uuid hq.uuid in grind (arith, nat_tests, kp, ks, et, es, eu, ev, hq.ordered, hr.ordered)))

-- and so does one behind it
cut_behind : (q r : Run) → IsRun q → IsRun r → precedes r q ≡ true → cut_out q r ≡ r ∷ []
cut_behind q r hq hr p = by_tests (bytes_eq r.source q.source) (ltb r.first q.first) (ltb q.last r.last) (ltb r.last q.first) refl refl refl refl
  where
    by_tests : (t s u v : Bool) → t ≡ bytes_eq r.source q.source → s ≡ ltb r.first q.first → u ≡ ltb q.last r.last → v ≡ ltb r.last q.first
        → cond t (cond s (record r { last = cond v r.last (q.first - 1) } ∷ []) [] ++ cond u (record r { first = cond (ltb q.last r.first) r.first (q.last + 1) } ∷ []) []) (r ∷ []) ≡ r ∷ []
    by_tests false s u v et es eu ev = refl
    by_tests true true false true et es eu ev = refl
    by_tests true s u v et es eu ev = absurd (false≢true (let kp = sym (precedes-key r q hr hq) ∙ p in let ks = bytes_eq-key r.source q.source hr.uuid hq.uuid in grind (arith, nat_tests, kp, ks, et, es, eu, ev, hq.ordered, hr.ordered)))

pub minus_later : (r q : Run) (qs : Gtids) → IsRun r → IsRun q → precedes q r ≡ true → minus (r ∷ []) (q ∷ qs) ≡ minus (r ∷ []) qs
minus_later r q qs hr hq p = ap (λ xs. minus (xs ++ []) qs) (cut_before q r hq hr p)

-- runs behind one that doesn't end before the cut are left
pub minus_all_later : (q r : Run) (rs qs : Gtids) → IsRun q → IsRun r → ends_first r q ≡ false → IsBefore r rs → IsCanonical rs → minus rs (q ∷ qs) ≡ minus rs qs
minus_all_later q r rs qs hq hr p b hs = ap (λ xs. minus xs qs) (each rs b hs)
  where
    each : (xs : Gtids) → IsBefore r xs → IsCanonical xs → flat_map (cut_out q) xs ≡ xs
    each [] bx h = refl
    each (x ∷ xs) bx h = rw (cut_before q x hq h.0 (ends_before q r x hq hr h.0 p bx)) (ap (λ zs. x ∷ zs) (each xs (before_head r x xs hr bx h) h.2))

-- a run before a cut is left by those behind the cut, and by all of them
pub minus_earlier : (r q : Run) (qs : Gtids) → IsRun r → IsCanonical (q ∷ qs) → precedes r q ≡ true → minus (r ∷ []) qs ≡ r ∷ []
minus_earlier r q [] hr hq p = refl
minus_earlier r q (t ∷ ts) hr hq p =
    let pt = precedes_before r q t hr hq.0 hq.2.0 p hq.1 in
    ap (λ xs. minus (xs ++ []) ts) (cut_behind t r hq.2.0 hr pt) ∙ minus_earlier r t ts hr hq.2 pt

pub minus_first : (r q : Run) (qs : Gtids) → IsRun r → IsCanonical (q ∷ qs) → precedes r q ≡ true → minus (r ∷ []) (q ∷ qs) ≡ r ∷ []
minus_first r q qs hr hq p = ap (λ xs. minus (xs ++ []) qs) (cut_behind q r hq.0 hr p) ∙ minus_earlier r q qs hr hq p

-- ---- a cut in a run

overlap_source : (q r : Run) → IsRun q → IsRun r → precedes q r ≡ false → precedes r q ≡ false → bytes_eq r.source q.source ≡ true
overlap_source q r hq hr p s =
    let kp = sym (precedes-key q r hq hr) ∙ p in
    let ks = sym (precedes-key r q hr hq) ∙ s in
    bytes_eq-key r.source q.source hr.uuid hq.uuid ∙ grind (arith, nat_tests, kp, ks)

pub record Overlap (q r : Run) : Type 0 where
  pub source : number_of q.source ≡ number_of r.source
  pub left : q.first ≤ r.last
  pub right : r.first ≤ q.last

pub overlap : (q r : Run) → IsRun q → IsRun r → precedes q r ≡ false → precedes r q ≡ false → Overlap q r
overlap q r hq hr p s =
    let kp = sym (precedes-key q r hq hr) ∙ p in
    let ks = sym (precedes-key r q hr hq) ∙ s in
    record { source = grind (arith, nat_tests, kp, ks); left = grind (arith, nat_tests, kp, ks); right = grind (arith, nat_tests, kp, ks) }

-- the part before the cut is left by those behind the cut
below_left : (r q : Run) (qs : Gtids) → IsRun r → IsCanonical (q ∷ qs) → Overlap q r → minus (below r q.first) qs ≡ below r q.first
below_left r q qs hr hq o = by_test (ltb r.first q.first) refl
  where
    lower : Run
    lower = record r { last = cond (ltb r.last q.first) r.last (q.first - 1) }

    is_lower : true ≡ ltb r.first q.first → IsRun lower
    is_lower e = record { uuid = hr.uuid; positive = hr.positive; ordered = grind (arith, nat_tests, e, hr.ordered); bounded = grind (arith, nat_tests, hr.bounded) }

    lower_first : true ≡ ltb r.first q.first → precedes lower q ≡ true
    lower_first e = precedes-key lower q (is_lower e) hq.0 ∙ grind (arith, nat_tests, o.source, hq.0.positive, e)

    by_test : (t : Bool) → t ≡ ltb r.first q.first → minus (cond t (lower ∷ []) []) qs ≡ cond t (lower ∷ []) []
    by_test false e = minus_nil qs
    by_test true e = minus_earlier lower q qs (is_lower e) hq (lower_first e)

-- a cut in a run leaves the part before it, and what those behind leave of the part behind it
pub minus_cut : (r q : Run) (qs : Gtids) → IsRun r → IsCanonical (q ∷ qs) → precedes q r ≡ false → precedes r q ≡ false → minus (r ∷ []) (q ∷ qs) ≡ below r q.first ++ minus (above r q.last) qs
minus_cut r q qs hr hq p s =
    let o = overlap q r hq.0 hr p s in
    let cut : cut_out q r ≡ below r q.first ++ above r q.last = ap (λ t. cond t (below r q.first ++ above r q.last) (r ∷ [])) (overlap_source q r hq.0 hr p s) in
    ap (λ xs. minus xs qs) (append-nil (cut_out q r) ∙ cut) ∙ minus-append (below r q.first) (above r q.last) qs ∙ ap (λ xs. xs ++ minus (above r q.last) qs) (below_left r q qs hr hq o)

pub above_none : (r q : Run) → r.last ≤ q.last → above r q.last ≡ []
above_none r q h = rw (le-ltb q.last r.last h) refl

pub above_some : (r q : Run) → q.last < r.last → r.first ≤ q.last → above r q.last ≡ record r { first = q.last + 1 } ∷ []
above_some r q h k = rw (lt-ltb q.last r.last h, le-ltb q.last r.first k) refl

-- ---- the steps, by index

parts_of : (a : Gtids) (i : ℕ) (d : Run) → i < length a → IsCanonical a → IsCanonical (get_or a i d ∷ drop (i + 1) a)
parts_of a i d lt h = subst IsCanonical (drop_more a i d lt) (canonical_drop a i h)

pub meet_step_left : (a b out new : Gtids) (i j : ℕ) (d : Run) → i < length a → j < length b → IsCanonical a → IsCanonical b → true ≡ ends_first (get_or a i d) (get_or b j d) → new ≡ out ++ common (get_or a i d) (get_or b j d)
    → new ++ meet (drop (i + 1) a) (drop j b) ≡ out ++ meet (drop i a) (drop j b)
meet_step_left a b out new i j d li lj ha hb e en =
    let sa = drop_more a i d li in
    let sb = drop_more b j d lj in
    let step = meet_left (get_or a i d) (get_or b j d) (drop (i + 1) a) (drop (j + 1) b) (parts_of a i d li ha) (parts_of b j d lj hb) (sym e) in
    let whole : meet (drop i a) (drop j b) ≡ common (get_or a i d) (get_or b j d) ++ meet (drop (i + 1) a) (drop j b) =
    ap (λ xs. meet xs (drop j b)) sa ∙ ap (meet (get_or a i d ∷ drop (i + 1) a)) sb ∙ step ∙ ap (λ ys. common (get_or a i d) (get_or b j d) ++ meet (drop (i + 1) a) ys) (sym sb) in
    ap (λ xs. xs ++ meet (drop (i + 1) a) (drop j b)) en ∙ append_assoc out (common (get_or a i d) (get_or b j d)) (meet (drop (i + 1) a) (drop j b)) ∙ ap (λ xs. out ++ xs) (sym whole)

pub meet_step_right : (a b out new : Gtids) (i j : ℕ) (d : Run) → i < length a → j < length b → IsCanonical a → IsCanonical b → false ≡ ends_first (get_or a i d) (get_or b j d) → new ≡ out ++ common (get_or a i d) (get_or b j d)
    → new ++ meet (drop i a) (drop (j + 1) b) ≡ out ++ meet (drop i a) (drop j b)
meet_step_right a b out new i j d li lj ha hb e en =
    let sa = drop_more a i d li in
    let sb = drop_more b j d lj in
    let step = meet_right (get_or a i d) (get_or b j d) (drop (i + 1) a) (drop (j + 1) b) (parts_of a i d li ha) (parts_of b j d lj hb) (sym e) in
    let whole : meet (drop i a) (drop j b) ≡ common (get_or a i d) (get_or b j d) ++ meet (drop i a) (drop (j + 1) b) =
    ap (λ xs. meet xs (drop j b)) sa ∙ ap (meet (get_or a i d ∷ drop (i + 1) a)) sb ∙ step ∙ ap (λ xs. common (get_or a i d) (get_or b j d) ++ meet xs (drop (j + 1) b)) (sym sa) in
    ap (λ xs. xs ++ meet (drop i a) (drop (j + 1) b)) en ∙ append_assoc out (common (get_or a i d) (get_or b j d)) (meet (drop i a) (drop (j + 1) b)) ∙ ap (λ xs. out ++ xs) (sym whole)

-- one of the two has come to its end
pub meet_end : (a b out : Gtids) (i j : ℕ) → (length a ≤ i) ⊎ (length b ≤ j) → out ++ meet (drop i a) (drop j b) ≡ out
meet_end a b out i j (inl le) = ap (λ xs. out ++ meet xs (drop j b)) (drop_all i a le) ∙ append-nil out
meet_end a b out i j (inr le) = ap (λ ys. out ++ meet (drop i a) ys) (drop_all j b le) ∙ ap (λ xs. out ++ xs) (meet_nil (drop i a)) ∙ append-nil out

-- ---- the steps of a cut, by index

not_first : (q r run : Run) → IsRun q → IsRun r → IsRun run → r.source ≡ run.source → r.last ≡ run.last → precedes q r ≡ true → ends_first run q ≡ false
not_first q r run hq hr hrun es el p =
    let kp = sym (precedes-key q r hq hr) ∙ p in
    let ks : number_of r.source ≡ number_of run.source = ap number_of es in
    ends_first-key run q hrun hq ∙ grind (arith, nat_tests, kp, ks, el, hr.ordered)

not_first_cut : (q r run : Run) → IsRun q → IsRun r → IsRun run → r.source ≡ run.source → r.last ≡ run.last → number_of q.source ≡ number_of r.source → q.last < r.last → ends_first run q ≡ false
not_first_cut q r run hq hr hrun es el ek lt =
    let ks : number_of r.source ≡ number_of run.source = ap number_of es in
    ends_first-key run q hrun hq ∙ grind (arith, nat_tests, ks, el, ek, lt)

-- the runs behind are as good without a cut that ends before the run does
later_step : (b : Gtids) (j : ℕ) (d run : Run) (behind : Gtids) → j < length b → IsCanonical b → IsRun run → ends_first run (get_or b j d) ≡ false → IsBefore run behind → IsCanonical behind → minus behind (drop (j + 1) b) ≡ minus behind (drop j b)
later_step b j d run behind lj hb hrun e bb hc =
    let parts = parts_of b j d lj hb in
    sym (ap (minus behind) (drop_more b j d lj) ∙ minus_all_later (get_or b j d) run behind (drop (j + 1) b) parts.0 hrun e bb hc)

pub record Skips (b : Gtids) (j : ℕ) (r run : Run) : Type 0 where
  pub added : minus (r ∷ []) (drop (j + 1) b) ≡ minus (r ∷ []) (drop j b)
  pub later : (behind : Gtids) → IsBefore run behind → IsCanonical behind → minus behind (drop (j + 1) b) ≡ minus behind (drop j b)

pub skip_cut : (b : Gtids) (j : ℕ) (d r run : Run) → j < length b → IsCanonical b → IsRun r → IsRun run → r.source ≡ run.source → r.last ≡ run.last → true ≡ precedes (get_or b j d) r → Skips b j r run
skip_cut b j d r run lj hb hr hrun es el p =
    let parts = parts_of b j d lj hb in
    record {
      added = sym (ap (minus (r ∷ [])) (drop_more b j d lj) ∙ minus_later r (get_or b j d) (drop (j + 1) b) hr parts.0 (sym p));
      later = λ behind bb hc. later_step b j d run behind lj hb hrun (not_first (get_or b j d) r run parts.0 hr hrun es el (sym p)) bb hc;
    }

pub uncut : (b : Gtids) (j : ℕ) (d r : Run) → j < length b → IsCanonical b → IsRun r → true ≡ precedes r (get_or b j d) → minus (r ∷ []) (drop j b) ≡ r ∷ []
uncut b j d r lj hb hr p = ap (minus (r ∷ [])) (drop_more b j d lj) ∙ minus_first r (get_or b j d) (drop (j + 1) b) hr (parts_of b j d lj hb) (sym p)

cut_here : (b : Gtids) (j : ℕ) (d r : Run) → j < length b → IsCanonical b → IsRun r → false ≡ precedes (get_or b j d) r → false ≡ precedes r (get_or b j d)
    → minus (r ∷ []) (drop j b) ≡ below r (get_or b j d).first ++ minus (above r (get_or b j d).last) (drop (j + 1) b)
cut_here b j d r lj hb hr p s = ap (minus (r ∷ [])) (drop_more b j d lj) ∙ minus_cut r (get_or b j d) (drop (j + 1) b) hr (parts_of b j d lj hb) (sym p) (sym s)

pub cut_to_end : (b : Gtids) (j : ℕ) (d r : Run) → j < length b → IsCanonical b → IsRun r → false ≡ precedes (get_or b j d) r → false ≡ precedes r (get_or b j d) → r.last ≤ (get_or b j d).last → minus (r ∷ []) (drop j b) ≡ below r (get_or b j d).first
cut_to_end b j d r lj hb hr p s le =
    cut_here b j d r lj hb hr p s ∙ ap (λ xs. below r (get_or b j d).first ++ minus xs (drop (j + 1) b)) (above_none r (get_or b j d) le) ∙ ap (λ xs. below r (get_or b j d).first ++ xs) (minus_nil (drop (j + 1) b)) ∙ append-nil (below r (get_or b j d).first)

pub record Cuts (b : Gtids) (j : ℕ) (q r rest run : Run) : Type 0 where
  pub is_run : IsRun rest
  pub added : minus (r ∷ []) (drop j b) ≡ below r q.first ++ minus (rest ∷ []) (drop (j + 1) b)
  pub later : (behind : Gtids) → IsBefore run behind → IsCanonical behind → minus behind (drop (j + 1) b) ≡ minus behind (drop j b)

pub cut_through : (b : Gtids) (j : ℕ) (d r run : Run) → j < length b → IsCanonical b → IsRun r → IsRun run → r.source ≡ run.source → r.last ≡ run.last → false ≡ precedes (get_or b j d) r → false ≡ precedes r (get_or b j d) → (get_or b j d).last < r.last
    → Cuts b j (get_or b j d) r (record r { first = (get_or b j d).last + 1 }) run
cut_through b j d r run lj hb hr hrun es el p s lt =
    let parts = parts_of b j d lj hb in
    let o = overlap (get_or b j d) r parts.0 hr (sym p) (sym s) in
    record {
      is_run = record { uuid = hr.uuid; positive = omega arith; ordered = omega arith; bounded = hr.bounded };
      added = cut_here b j d r lj hb hr p s ∙ ap (λ xs. below r (get_or b j d).first ++ minus xs (drop (j + 1) b)) (above_some r (get_or b j d) lt o.right);
      later = λ behind bb hc. later_step b j d run behind lj hb hrun (not_first_cut (get_or b j d) r run parts.0 hr hrun es el o.source lt) bb hc;
    }

-- one run of the first more
pub minus_step : (a b out new : Gtids) (i j k : ℕ) (d : Run) → i < length a → IsCanonical a → new ≡ out ++ minus (get_or a i d ∷ []) (drop j b)
    → ((behind : Gtids) → IsBefore (get_or a i d) behind → IsCanonical behind → minus behind (drop k b) ≡ minus behind (drop j b))
    → new ++ minus (drop (i + 1) a) (drop k b) ≡ out ++ minus (drop i a) (drop j b)
minus_step a b out new i j k d lt ha e later =
    let parts = parts_of a i d lt ha in
    let split : minus (drop i a) (drop j b) ≡ minus (get_or a i d ∷ []) (drop j b) ++ minus (drop (i + 1) a) (drop j b) = ap (λ xs. minus xs (drop j b)) (drop_more a i d lt) ∙ minus-append (get_or a i d ∷ []) (drop (i + 1) a) (drop j b) in
    ap (λ xs. xs ++ minus (drop (i + 1) a) (drop k b)) e ∙ append_assoc out (minus (get_or a i d ∷ []) (drop j b)) (minus (drop (i + 1) a) (drop k b))
    ∙ ap (λ xs. out ++ (minus (get_or a i d ∷ []) (drop j b) ++ xs)) (later (drop (i + 1) a) parts.1 parts.2) ∙ ap (λ xs. out ++ xs) (sym split)

pub regroup : (new out x y z w : Gtids) → new ≡ out ++ x → z ≡ x ++ y → out ++ z ≡ w → new ++ y ≡ w
regroup new out x y z w a b c = ap (λ xs. xs ++ y) a ∙ append_assoc out x y ∙ ap (λ xs. out ++ xs) (sym b) ∙ c

-- ---- whether the second has all that the first has

covers_none : (r q : Run) → IsRun r → IsRun q → precedes q r ≡ true → covers r q ≡ false
covers_none r q hr hq p =
    let kp = sym (precedes-key q r hq hr) ∙ p in
    let ks = bytes_eq-key q.source r.source hq.uuid hr.uuid in
    grind (arith, nat_tests, kp, ks, hr.ordered, hq.ordered)

-- a run that precedes the first of some covers none of them
subset_skip : (q r : Run) (rs qs : Gtids) → IsRun q → IsCanonical (r ∷ rs) → precedes q r ≡ true → subset (r ∷ rs) (q ∷ qs) ≡ subset (r ∷ rs) qs
subset_skip q r [] qs hq hs p = rw (covers_none r q hs.0 hq p) refl
subset_skip q r (s ∷ ss) qs hq hs p =
    let later = subset_skip q s ss qs hq hs.2 (precedes_before q r s hq hs.0 hs.2.0 p hs.1) in
    rw (covers_none r q hs.0 hq p) (ap (λ t. list_any (covers r) qs && t) later)

-- one that doesn't precede the run, and doesn't cover it, is followed by none that does
covers_later : (r q : Run) (qs : Gtids) → IsRun r → IsCanonical (q ∷ qs) → precedes q r ≡ false → covers r q ≡ false → list_any (covers r) (q ∷ qs) ≡ false
covers_later r q qs hr hq p h = or_from (covers r q) (list_any (covers r) qs) h (none qs hq.1 hq.2)
  where
    none : (xs : Gtids) → IsBefore q xs → IsCanonical xs → list_any (covers r) xs ≡ false
    none [] b hx = refl
    none (x ∷ xs) b hx =
        let kp = sym (precedes-key q r hq.0 hr) ∙ p in
        let kb = sym (before_run-key q x hq.0 hx.0) ∙ b in
        let ks = bytes_eq-key x.source r.source hx.0.uuid hr.uuid in
        let here : covers r x ≡ false = grind (arith, nat_tests, kp, kb, ks) in
        or_from (covers r x) (list_any (covers r) xs) here (none xs (before_head q x xs hq.0 b hx) hx.2)

pub subset_step_skip : (a b : Gtids) (i j : ℕ) (d : Run) → i < length a → j < length b → IsCanonical a → IsCanonical b → true ≡ precedes (get_or b j d) (get_or a i d) → subset (drop i a) (drop (j + 1) b) ≡ subset (drop i a) (drop j b)
subset_step_skip a b i j d li lj ha hb p =
    let sa = drop_more a i d li in
    let sb = drop_more b j d lj in
    let step = subset_skip (get_or b j d) (get_or a i d) (drop (i + 1) a) (drop (j + 1) b) (parts_of b j d lj hb).0 (parts_of a i d li ha) (sym p) in
    sym (ap (λ xs. subset xs (drop j b)) sa ∙ ap (subset (get_or a i d ∷ drop (i + 1) a)) sb ∙ step ∙ ap (λ xs. subset xs (drop (j + 1) b)) (sym sa))

pub subset_step_covered : (a b : Gtids) (i j : ℕ) (d : Run) → i < length a → j < length b → true ≡ covers (get_or a i d) (get_or b j d) → subset (drop (i + 1) a) (drop j b) ≡ subset (drop i a) (drop j b)
subset_step_covered a b i j d li lj c =
    let sa = drop_more a i d li in
    let sb = drop_more b j d lj in
    let here : list_any (covers (get_or a i d)) (drop j b) ≡ true = ap (list_any (covers (get_or a i d))) sb ∙ ap (λ t. t || list_any (covers (get_or a i d)) (drop (j + 1) b)) (sym c) in
    sym (ap (λ xs. subset xs (drop j b)) sa ∙ ap (λ t. t && subset (drop (i + 1) a) (drop j b)) here)

pub subset_step_not : (a b : Gtids) (i j : ℕ) (d : Run) → i < length a → j < length b → IsCanonical a → IsCanonical b → false ≡ precedes (get_or b j d) (get_or a i d) → false ≡ covers (get_or a i d) (get_or b j d) → subset (drop i a) (drop j b) ≡ false
subset_step_not a b i j d li lj ha hb p c =
    let sa = drop_more a i d li in
    let sb = drop_more b j d lj in
    let none = covers_later (get_or a i d) (get_or b j d) (drop (j + 1) b) (parts_of a i d li ha).0 (parts_of b j d lj hb) (sym p) (sym c) in
    let here : list_any (covers (get_or a i d)) (drop j b) ≡ false = ap (list_any (covers (get_or a i d))) sb ∙ none in
    ap (λ xs. subset xs (drop j b)) sa ∙ ap (λ t. t && subset (drop (i + 1) a) (drop j b)) here

pub subset_step_end : (a b : Gtids) (i j : ℕ) (d : Run) → i < length a → length b ≤ j → subset (drop i a) (drop j b) ≡ false
subset_step_end a b i j d li le = ap (subset (drop i a)) (drop_all j b le) ∙ ap (λ xs. subset xs []) (drop_more a i d li)

-- ---- how many there are

pub count_below : (s : Gtids) (i : ℕ) → IsCanonical s → count_of (take i s) ≤ i * 9223372036854775808
count_below s zero h = omega arith
count_below [] (suc i) h = omega arith
count_below (r ∷ rs) (suc i) h = omega (arith, count_below rs i h.2, h.0.bounded, h.0.positive)

pub count_more : (s : Gtids) (i : ℕ) (d : Run) → i < length s → count_of (take (i + 1) s) ≡ count_of (take i s) + (((get_or s i d).last + 1) - (get_or s i d).first)
count_more [] i d lt = absurd (omega arith)
count_more (r ∷ rs) zero d lt = omega arith
count_more (r ∷ rs) (suc i) d lt =
    let more : suc i + 1 ≡ suc (i + 1) = omega arith in
    ap (λ k. count_of (take k (r ∷ rs))) more ∙ omega (arith, count_more rs i d (omega arith))
