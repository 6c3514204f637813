-- Sets that are made of parts of the runs of another one.
use Rattle.std.proofs.Common.{◌≡◌, ℕ, ◌+◌, ◌-◌, ◌≤◌, Bool, true, false, cond, not, ◌&&◌, ◌||◌, [], ◌∷◌, ◌++◌, refl, sym, ap, subst, ◌∙◌, arith, eqb, ltb, leb}
use Rattle.std.specs.List.{flat_map}
use Rattle.std.proofs.lemmas.Bool.{and_parts, and_right}
use Rattle.std.specs.Cmp.Lexicographic.{same_text}
use Rattle.std.proofs.lemmas.Bool.Decides.{nat_tests}
use Rattle.byte_forms.specs.Numbers.{number_of}
use Rattle.gr_ids.specs.declared.names.Gtid.{Gtid}
use Rattle.std.specs.Str.{bytes_eq}
use Rattle.gtid_sets.specs.Sets.{Run, Gtids, in_run, has, before_run, common, meet, below, above, cut_out, minus}
use Rattle.gtid_sets.specs.Canonical.{IsUuid, IsRun, IsBefore, IsCanonical}
use Rattle.gtid_sets.proofs.Keys.{bytes_eq-key, in_run-key, before_run-key}
use Rattle.gtid_sets.proofs.RunLemmas.{before_head}

-- a run within another one
pub record IsPart (r x : Run) : Type 0 where
  pub source : x.source ≡ r.source
  pub low : r.first ≤ x.first
  pub high : x.last ≤ r.last
  pub ordered : x.first ≤ x.last

pub part_run : (r x : Run) → IsRun r → IsPart r x → IsRun x
part_run r x hr p = record { uuid = subst IsUuid (sym p.source) hr.uuid; positive = omega (arith, hr.positive, p.low); ordered = p.ordered; bounded = omega (arith, hr.bounded, p.high) }

abbrev pub AreParts : Run → Gtids → Type 0
AreParts r [] = Unit {0}
AreParts r (x ∷ xs) = IsPart r x × AreParts r xs

pub part_before : (r s x : Run) → IsRun r → IsRun s → IsPart r x → before_run r s ≡ true → before_run x s ≡ true
part_before r s x hr hs p h =
    let k = sym (before_run-key r s hr hs) ∙ h in
    let e : number_of x.source ≡ number_of r.source = ap number_of p.source in
    before_run-key x s (part_run r x hr p) hs ∙ grind (arith, nat_tests, k, e, p.high)

pub before_part : (r s y : Run) → IsRun r → IsRun s → IsPart s y → before_run r s ≡ true → before_run r y ≡ true
before_part r s y hr hs p h =
    let k = sym (before_run-key r s hr hs) ∙ h in
    let e : number_of y.source ≡ number_of s.source = ap number_of p.source in
    before_run-key r y hr (part_run s y hs p) ∙ grind (arith, nat_tests, k, e, p.low)

before_parts : (r s : Run) (xs ys : Gtids) → IsRun r → IsRun s → before_run r s ≡ true → AreParts s xs → IsBefore r ys → IsBefore r (xs ++ ys)
before_parts r s [] ys hr hs h ps b = b
before_parts r s (x ∷ xs) ys hr hs h ps b = before_part r s x hr hs ps.0 h

part_before_all : (r x : Run) (ys : Gtids) → IsRun r → IsPart r x → IsCanonical ys → IsBefore r ys → IsBefore x ys
part_before_all r x [] hr p hy b = tt
part_before_all r x (y ∷ ys) hr p hy b = part_before r y x hr hy.0 p b

append_parts : (r : Run) (xs ys : Gtids) → IsRun r → IsCanonical xs → AreParts r xs → IsCanonical ys → IsBefore r ys → IsCanonical (xs ++ ys)
append_parts r [] ys hr hx ps hy b = hy
append_parts r (x ∷ xs) ys hr hx ps hy b = (hx.0, next xs hx.1 hx.2, append_parts r xs ys hr hx.2 ps.1 hy b)
  where
    next : (zs : Gtids) → IsBefore x zs → IsCanonical zs → IsBefore x (zs ++ ys)
    next [] bz hz = part_before_all r x ys hr ps.0 hy b
    next (z ∷ zs) bz hz = bz

-- where each run gives way to parts of it, what comes is canonical
pub record Splits (f : Run → Gtids) : Type 0 where
  pub canonical : (r : Run) → IsRun r → IsCanonical (f r)
  pub parts : (r : Run) → IsRun r → AreParts r (f r)

before_split : (f : Run → Gtids) → Splits f → (r : Run) (s : Gtids) → IsRun r → IsBefore r s → IsCanonical s → IsBefore r (flat_map f s)
before_split f sp r [] hr b hs = tt
before_split f sp r (s ∷ ss) hr b hs = before_parts r s (f s) (flat_map f ss) hr hs.0 b (sp.parts s hs.0) (before_split f sp r ss hr (before_head r s ss hr b hs) hs.2)

pub canonical_split : (f : Run → Gtids) → Splits f → (s : Gtids) → IsCanonical s → IsCanonical (flat_map f s)
canonical_split f sp [] hs = tt
canonical_split f sp (s ∷ ss) hs = append_parts s (f s) (flat_map f ss) hs.0 (sp.canonical s hs.0) (sp.parts s hs.0) (canonical_split f sp ss hs.2) (before_split f sp s ss hs.0 hs.1 hs.2)

parts_append : (r : Run) (xs ys : Gtids) → AreParts r xs → AreParts r ys → AreParts r (xs ++ ys)
parts_append r [] ys px py = py
parts_append r (x ∷ xs) ys px py = (px.0, parts_append r xs ys px.1 py)

pub has-append : (xs ys : Gtids) (g : Gtid) → has (xs ++ ys) g ≡ (has xs g || has ys g)
has-append [] ys g = refl
has-append (x ∷ xs) ys g = let later = has-append xs ys g in grind (arith, nat_tests)

-- ---- what two runs have in common

-- by the two tests of the definition
common_parts_left : (r b : Run) → IsRun r → IsRun b → AreParts r (common r b)
common_parts_left r b hr hb = by_test (bytes_eq r.source b.source && leb (cond (ltb r.first b.first) b.first r.first) (cond (ltb r.last b.last) r.last b.last)) refl
  where
    by_test : (t : Bool) → t ≡ (bytes_eq r.source b.source && leb (cond (ltb r.first b.first) b.first r.first) (cond (ltb r.last b.last) r.last b.last))
        → AreParts r (cond t (record { source = r.source; first = cond (ltb r.first b.first) b.first r.first; last = cond (ltb r.last b.last) r.last b.last } ∷ []) [])
    by_test false e = tt
    by_test true e = (record { source = refl; low = grind (arith, nat_tests); high = grind (arith, nat_tests); ordered = grind (arith, nat_tests, e) }, tt)

common_parts_right : (r b : Run) → IsRun r → IsRun b → AreParts b (common r b)
common_parts_right r b hr hb = by_test (bytes_eq r.source b.source && leb (cond (ltb r.first b.first) b.first r.first) (cond (ltb r.last b.last) r.last b.last)) refl
  where
    by_test : (t : Bool) → t ≡ (bytes_eq r.source b.source && leb (cond (ltb r.first b.first) b.first r.first) (cond (ltb r.last b.last) r.last b.last))
        → AreParts b (cond t (record { source = r.source; first = cond (ltb r.first b.first) b.first r.first; last = cond (ltb r.last b.last) r.last b.last } ∷ []) [])
    by_test false e = tt
    by_test true e =
        let same : bytes_eq r.source b.source ≡ true = (and_parts (bytes_eq r.source b.source) _ (sym e)).0 in
        (record { source = same_text r.source b.source (sym same); low = grind (arith, nat_tests); high = grind (arith, nat_tests); ordered = grind (arith, nat_tests, e) }, tt)

-- parts that are one or none
common_canonical : (r b : Run) → IsRun r → IsRun b → IsCanonical (common r b)
common_canonical r b hr hb = by_test (bytes_eq r.source b.source && leb (cond (ltb r.first b.first) b.first r.first) (cond (ltb r.last b.last) r.last b.last)) (common_parts_left r b hr hb)
  where
    by_test : (t : Bool) → AreParts r (cond t (record { source = r.source; first = cond (ltb r.first b.first) b.first r.first; last = cond (ltb r.last b.last) r.last b.last } ∷ []) [])
        → IsCanonical (cond t (record { source = r.source; first = cond (ltb r.first b.first) b.first r.first; last = cond (ltb r.last b.last) r.last b.last } ∷ []) [])
    by_test false ps = tt
    by_test true ps = (part_run r _ hr ps.0, tt, tt)

has_common : (r b : Run) (g : Gtid) → IsUuid g.source → IsRun r → IsRun b → has (common r b) g ≡ (in_run g r && in_run g b)
has_common r b g hg hr hb = by_test (bytes_eq r.source b.source && leb (cond (ltb r.first b.first) b.first r.first) (cond (ltb r.last b.last) r.last b.last)) refl
  where
    x : Run
    x = record { source = r.source; first = cond (ltb r.first b.first) b.first r.first; last = cond (ltb r.last b.last) r.last b.last }

    kx : in_run g x ≡ (eqb (number_of r.source) (number_of g.source) && (leb x.first g.number && leb g.number x.last))
    kx = ap (λ t. t && (leb x.first g.number && leb g.number x.last)) (bytes_eq-key r.source g.source hr.uuid hg)

    by_test : (t : Bool) → t ≡ (bytes_eq r.source b.source && leb (cond (ltb r.first b.first) b.first r.first) (cond (ltb r.last b.last) r.last b.last))
        → has (cond t (x ∷ []) []) g ≡ (in_run g r && in_run g b)
    by_test false e =
        let kr = in_run-key g r hg hr in
        let kb = in_run-key g b hg hb in
        let ks = bytes_eq-key r.source b.source hr.uuid hb.uuid in
        rw (kr, kb) (grind (arith, nat_tests, e, ks))
    by_test true e =
        let kr = in_run-key g r hg hr in
        let kb = in_run-key g b hg hb in
        let ks = bytes_eq-key r.source b.source hr.uuid hb.uuid in
        rw (kr, kb, kx) (grind (arith, nat_tests, e, ks))

-- ---- what a run and a set have in common

common_splits_left : (b : Run) → IsRun b → (r : Run) → IsRun r → IsCanonical (common r b) × AreParts b (common r b)
common_splits_left b hb r hr = (common_canonical r b hr hb, common_parts_right r b hr hb)

before_common : (r a : Run) (s : Gtids) → IsRun r → IsRun a → IsBefore r s → IsCanonical s → IsBefore r (flat_map (common a) s)
before_common r a [] hr ha b hs = tt
before_common r a (s ∷ ss) hr ha b hs = before_parts r s (common a s) (flat_map (common a) ss) hr hs.0 b (common_parts_right a s ha hs.0) (before_common r a ss hr ha (before_head r s ss hr b hs) hs.2)

canonical_common : (a : Run) (s : Gtids) → IsRun a → IsCanonical s → IsCanonical (flat_map (common a) s)
canonical_common a [] ha hs = tt
canonical_common a (s ∷ ss) ha hs = append_parts s (common a s) (flat_map (common a) ss) hs.0 (common_canonical a s ha hs.0) (common_parts_right a s ha hs.0) (canonical_common a ss ha hs.2) (before_common s a ss hs.0 ha hs.1 hs.2)

parts_common : (a : Run) (s : Gtids) → IsRun a → IsCanonical s → AreParts a (flat_map (common a) s)
parts_common a [] ha hs = tt
parts_common a (s ∷ ss) ha hs = parts_append a (common a s) (flat_map (common a) ss) (common_parts_left a s ha hs.0) (parts_common a ss ha hs.2)

and_or : (a b c : Bool) → ((a && b) || (a && c)) ≡ (a && (b || c))
and_or true b c = refl
and_or false b c = refl

or_and : (a b c : Bool) → ((a && b) || (c && b)) ≡ ((a || c) && b)
or_and true true c = refl
or_and true false true = refl
or_and true false false = refl
or_and false b c = refl

has_common_all : (a : Run) (s : Gtids) (g : Gtid) → IsUuid g.source → IsRun a → IsCanonical s → has (flat_map (common a) s) g ≡ (in_run g a && has s g)
has_common_all a [] g hg ha hs = sym (and_right (in_run g a) false refl)
has_common_all a (s ∷ ss) g hg ha hs =
    let here = has_common a s g hg ha hs.0 in
    let later = has_common_all a ss g hg ha hs.2 in
    has-append (common a s) (flat_map (common a) ss) g ∙ rw (here, later) (and_or (in_run g a) (in_run g s) (has ss g))

pub canonical_meet : (a b : Gtids) → IsCanonical a → IsCanonical b → IsCanonical (meet a b)
canonical_meet a b ha hb = canonical_split (λ r. flat_map (common r) b) (record { canonical = λ r hr. canonical_common r b hr hb; parts = λ r hr. parts_common r b hr hb }) a ha

pub has_meet : (a b : Gtids) (g : Gtid) → IsUuid g.source → IsCanonical a → IsCanonical b → has (meet a b) g ≡ (has a g && has b g)
has_meet [] b g hg ha hb = refl
has_meet (r ∷ rs) b g hg ha hb =
    let here = has_common_all r b g hg ha.0 hb in
    let later = has_meet rs b g hg ha.2 hb in
    has-append (flat_map (common r) b) (meet rs b) g ∙ rw (here, later) (or_and (in_run g r) (has b g) (has rs g))

-- ---- what a run has and another one hasn't

below_parts : (r : Run) (n : ℕ) → IsRun r → 1 ≤ n → AreParts r (below r n)
below_parts r n hr pos = by_test (ltb r.first n) refl
  where
    by_test : (t : Bool) → t ≡ ltb r.first n → AreParts r (cond t (record r { last = cond (ltb r.last n) r.last (n - 1) } ∷ []) [])
    by_test false e = tt
    by_test true e = (record { source = refl; low = omega arith; high = grind (arith, nat_tests); ordered = grind (arith, nat_tests, e, hr.ordered) }, tt)

above_parts : (r : Run) (n : ℕ) → IsRun r → AreParts r (above r n)
above_parts r n hr = by_test (ltb n r.last) refl
  where
    by_test : (t : Bool) → t ≡ ltb n r.last → AreParts r (cond t (record r { first = cond (ltb n r.first) r.first (n + 1) } ∷ []) [])
    by_test false e = tt
    by_test true e = (record { source = refl; low = grind (arith, nat_tests); high = omega arith; ordered = grind (arith, nat_tests, e, hr.ordered) }, tt)

above_canonical : (r : Run) (n : ℕ) → IsRun r → IsCanonical (above r n)
above_canonical r n hr = by_test (ltb n r.last) (above_parts r n hr)
  where
    by_test : (t : Bool) → AreParts r (cond t (record r { first = cond (ltb n r.first) r.first (n + 1) } ∷ []) []) → IsCanonical (cond t (record r { first = cond (ltb n r.first) r.first (n + 1) } ∷ []) [])
    by_test false ps = tt
    by_test true ps = (part_run r _ hr ps.0, tt, tt)

around_canonical : (r b : Run) → IsRun r → IsRun b → IsCanonical (below r b.first ++ above r b.last)
around_canonical r b hr hb = by_tests (ltb r.first b.first) (ltb b.last r.last) refl refl (below_parts r b.first hr hb.positive) (above_parts r b.last hr)
  where
    lower : Run
    lower = record r { last = cond (ltb r.last b.first) r.last (b.first - 1) }

    upper : Run
    upper = record r { first = cond (ltb b.last r.first) r.first (b.last + 1) }

    by_tests : (s t : Bool) → s ≡ ltb r.first b.first → t ≡ ltb b.last r.last → AreParts r (cond s (lower ∷ []) []) → AreParts r (cond t (upper ∷ []) []) → IsCanonical (cond s (lower ∷ []) [] ++ cond t (upper ∷ []) [])
    by_tests false false es et ps pt = tt
    by_tests false true es et ps pt = (part_run r upper hr pt.0, tt, tt)
    by_tests true false es et ps pt = (part_run r lower hr ps.0, tt, tt)
    by_tests true true es et ps pt =
        let hl = part_run r lower hr ps.0 in
        let hu = part_run r upper hr pt.0 in
        (hl, before_run-key lower upper hl hu ∙ grind (arith, nat_tests, es, et, hb.ordered, hb.positive), (hu, tt, tt))

cut_canonical : (b r : Run) → IsRun b → IsRun r → IsCanonical (cut_out b r)
cut_canonical b r hb hr = by_test (bytes_eq r.source b.source)
  where
    by_test : (t : Bool) → IsCanonical (cond t (below r b.first ++ above r b.last) (r ∷ []))
    by_test true = around_canonical r b hr hb
    by_test false = (hr, tt, tt)

cut_parts : (b r : Run) → IsRun b → IsRun r → AreParts r (cut_out b r)
cut_parts b r hb hr = by_test (bytes_eq r.source b.source)
  where
    by_test : (t : Bool) → AreParts r (cond t (below r b.first ++ above r b.last) (r ∷ []))
    by_test true = parts_append r (below r b.first) (above r b.last) (below_parts r b.first hr hb.positive) (above_parts r b.last hr)
    by_test false = (record { source = refl; low = omega arith; high = omega arith; ordered = hr.ordered }, tt)

pub has_cut : (b r : Run) (g : Gtid) → IsUuid g.source → IsRun b → IsRun r → has (cut_out b r) g ≡ (in_run g r && not (in_run g b))
has_cut b r g hg hb hr =
    let kr = in_run-key g r hg hr in
    let kb = in_run-key g b hg hb in
    let ks = bytes_eq-key r.source b.source hr.uuid hb.uuid in
    let kg = bytes_eq-key r.source g.source hr.uuid hg in
    rw (kr, kb, ks) (by_tests (ltb r.first b.first) (ltb b.last r.last) refl refl kg)
  where
    lower : Run
    lower = record r { last = cond (ltb r.last b.first) r.last (b.first - 1) }

    upper : Run
    upper = record r { first = cond (ltb b.last r.first) r.first (b.last + 1) }

    by_tests : (s t : Bool) → s ≡ ltb r.first b.first → t ≡ ltb b.last r.last → bytes_eq r.source g.source ≡ eqb (number_of r.source) (number_of g.source)
        → has (cond (eqb (number_of r.source) (number_of b.source)) (cond s (lower ∷ []) [] ++ cond t (upper ∷ []) []) (r ∷ [])) g
        ≡ ((eqb (number_of r.source) (number_of g.source) && (leb r.first g.number && leb g.number r.last)) && not (eqb (number_of b.source) (number_of g.source) && (leb b.first g.number && leb g.number b.last)))
    by_tests false false es et kg = grind (arith, nat_tests, kg, es, et, hb.ordered, hr.ordered, hb.positive)
    by_tests false true es et kg = grind (arith, nat_tests, kg, es, et, hb.ordered, hr.ordered, hb.positive)
    by_tests true false es et kg = grind (arith, nat_tests, kg, es, et, hb.ordered, hr.ordered, hb.positive)
    by_tests true true es et kg = grind (arith, nat_tests, kg, es, et, hb.ordered, hr.ordered, hb.positive)

-- ---- what a set has and another one hasn't

pub canonical_cut : (b : Run) (s : Gtids) → IsRun b → IsCanonical s → IsCanonical (flat_map (cut_out b) s)
canonical_cut b s hb hs = canonical_split (cut_out b) (record { canonical = λ r hr. cut_canonical b r hb hr; parts = λ r hr. cut_parts b r hb hr }) s hs

not_and : (a b c : Bool) → ((a && not b) || (c && not b)) ≡ ((a || c) && not b)
not_and a b c = or_and a (not b) c

has_cut_all : (b : Run) (s : Gtids) (g : Gtid) → IsUuid g.source → IsRun b → IsCanonical s → has (flat_map (cut_out b) s) g ≡ (has s g && not (in_run g b))
has_cut_all b [] g hg hb hs = refl
has_cut_all b (r ∷ rs) g hg hb hs =
    let here = has_cut b r g hg hb hs.0 in
    let later = has_cut_all b rs g hg hb hs.2 in
    has-append (cut_out b r) (flat_map (cut_out b) rs) g ∙ rw (here, later) (not_and (in_run g r) (in_run g b) (has rs g))

pub canonical_minus : (a b : Gtids) → IsCanonical a → IsCanonical b → IsCanonical (minus a b)
canonical_minus a [] ha hb = ha
canonical_minus a (b ∷ bs) ha hb = canonical_minus (flat_map (cut_out b) a) bs (canonical_cut b a hb.0 ha) hb.2

not_or : (a b c : Bool) → ((a && not b) && not c) ≡ (a && not (b || c))
not_or true true c = refl
not_or true false c = refl
not_or false b c = refl

pub has_minus : (a b : Gtids) (g : Gtid) → IsUuid g.source → IsCanonical a → IsCanonical b → has (minus a b) g ≡ (has a g && not (has b g))
has_minus a [] g hg ha hb = all (has a g)
  where
    all : (t : Bool) → t ≡ (t && true)
    all true = refl
    all false = refl
has_minus a (b ∷ bs) g hg ha hb =
    has_minus (flat_map (cut_out b) a) bs g hg (canonical_cut b a hb.0 ha) hb.2 ∙ rw (has_cut_all b a g hg hb.0 ha) (not_or (has a g) (in_run g b) (has bs g))
