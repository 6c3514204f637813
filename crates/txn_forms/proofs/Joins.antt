-- What a part does to the open parts of its origin.
use Rattle.std.proofs.Common.{◌≡◌, ℕ, zero, suc, ◌+◌, ◌*◌, ◌<◌, ◌≤◌, ◌^◌, Bool, true, false, ◌&&◌, ◌||◌, Option, Some, None, Result, Ok, Err, OnOk, OnErr, IfSome, List, [], ◌∷◌, ◌++◌, length, length-append, get_or, set, eqb, eqb-true, ltb, refl, sym, ap, subst, ◌∙◌, arith}
use Rattle.std.specs.Prelude.{if◌then◌else◌}
use Rattle.std.specs.List.{slice_get, remove}
use Rattle.std.proofs.lemmas.Bool.{and_parts, and_from, and_left, ltb-true, lt-ltb, false≢true}
use Rattle.std.proofs.lemmas.Bool.Decides.{nat_tests}
use Rattle.std.proofs.lemmas.Option.{slice_get-get_or}
use Rattle.byte_forms.specs.Lists.{IsChain}
use Rattle.gr_ids.specs.declared.names.Inc.{Inc}
use Rattle.gr_ids.specs.declared.names.OpenParts.{OpenParts}
use Rattle.name_forms.specs.Incs.{IsInc}
use Rattle.name_forms.specs.OpenParts.{IsOpenAfter, part_size, most_parts}
use Rattle.txn_forms.specs.Bodies.{Part, IsPart}
use Rattle.txn_forms.specs.Parts.{Joined, goes_on, bytes_before, is_open, is_last, joined_bytes, after_part, becomes, whole_or_void, parts_of, with_parts}
use Rattle.txn_forms.specs.PartPlaces.{parts_before, has_parts}
use Rattle.txn_forms.proofs.OpenPlaces.{IsOpenFor, parts_there, parts_nowhere, parts_open, has_within, parts_set, parts_remove, chain_with}

-- ---- a part that goes on where these were left

pub record Follows (ps : List OpenParts) (o : Inc) (at : ℕ) (x : Part) (p : OpenParts) : Type 0 where
  pub place : at ≡ parts_before ps o
  pub there : has_parts ps at o ≡ true
  pub within : at < length ps
  pub parts : parts_of ps o ≡ Some p
  pub fits : IsOpenFor o p
  pub count : p.count ≡ x.count
  pub index : p.held + 1 ≡ x.index

follows_has : (ps : List OpenParts) (o : Inc) (at : ℕ) (x : Part) → IsChain IsOpenAfter None ps → at ≡ parts_before ps o → goes_on (parts_of ps o) x ≡ true → has_parts ps at o ≡ true
follows_has ps o at x chain place goes = by_test (has_parts ps at o) refl
  where
    by_test : (t : Bool) → has_parts ps at o ≡ t → has_parts ps at o ≡ true
    by_test true e = e
    by_test false e = absurd (false≢true (ap (λ (w : Option OpenParts). goes_on w x) (sym (parts_nowhere ps None o at chain place e)) ∙ goes))

follows_at : (ps : List OpenParts) (o : Inc) (at : ℕ) (x : Part) (d : OpenParts) → IsChain IsOpenAfter None ps → at ≡ parts_before ps o → goes_on (parts_of ps o) x ≡ true → Follows ps o at x (get_or ps at d)
follows_at ps o at x d chain place goes =
    let there = follows_has ps o at x chain place goes in
    let within = has_within ps at o there in
    let parts : parts_of ps o ≡ Some (get_or ps at d) = parts_there ps o at place there ∙ slice_get-get_or ps at d within in
    let held = get_or ps at d in
    let both = and_parts (eqb held.count x.count) (eqb (held.held + 1) x.index) (ap (λ (w : Option OpenParts). goes_on w x) (sym parts) ∙ goes) in
    record { place = place; there = there; within = within; parts = parts; fits = parts_open ps None o held chain parts; count = eqb-true held.count x.count both.0; index = eqb-true (held.held + 1) x.index both.1 }

-- the list as it was seen, and the parts by the name of what was read
pub follows_within : (ps seen later : List OpenParts) (o : Inc) (at : ℕ) (x : Part) → IsChain IsOpenAfter None ps → seen ≡ ps → later ≡ ps → at ≡ parts_before seen o → true ≡ goes_on (parts_of later o) x → at < length seen
follows_within ps seen later o at x chain es el place goes =
    let there = follows_has ps o at x chain (place ∙ ap (λ (qs : List OpenParts). parts_before qs o) es) (ap (λ (qs : List OpenParts). goes_on (parts_of qs o) x) (sym el) ∙ sym goes) in
    let within = has_within ps at o there in
    omega (arith, within, ap length es)

pub follows_is : (ps seen later : List OpenParts) (o : Inc) (at : ℕ) (x : Part) (p : OpenParts) → IsChain IsOpenAfter None ps → seen ≡ ps → later ≡ ps → at ≡ parts_before seen o → true ≡ goes_on (parts_of later o) x → p ≡ get_or ps at p → Follows ps o at x p
follows_is ps seen later o at x p chain es el place goes e =
    subst (Follows ps o at x) (sym e) (follows_at ps o at x p chain (place ∙ ap (λ (qs : List OpenParts). parts_before qs o) es) (ap (λ (qs : List OpenParts). goes_on (parts_of qs o) x) (sym el) ∙ sym goes))

or_second : (s t : Bool) → t ≡ true → s || t ≡ true
or_second true t e = refl
or_second false t e = e

not_first : (h i : ℕ) → 1 ≤ h → h + 1 ≡ i → eqb i 1 ≡ false
not_first h i a e = grind (arith, nat_tests)

goes_true : (ps : List OpenParts) (o : Inc) (at : ℕ) (x : Part) (p : OpenParts) → Follows ps o at x p → goes_on (Some p) x ≡ true
goes_true ps o at x p f = grind (arith, nat_tests, f.count, f.index)

-- ---- one part more

after_open : (o : Inc) (x : Part) (p : OpenParts) → goes_on (Some p) x ≡ true → eqb x.index 1 ≡ false → ltb x.index x.count ≡ true → after_part o (Some p) x ≡ Some (record { origin = o; count = x.count; held = x.index; bytes = p.bytes ++ x.bytes })
after_open o x p goes first more =
    let opens : is_open (Some p) x ≡ true = and_from (ltb x.index x.count) (eqb x.index 1 || goes_on (Some p) x) more (or_second (eqb x.index 1) (goes_on (Some p) x) goes) in
    rw (after_part, opens, joined_bytes, first) refl

one_more : (o : Inc) (x : Part) (p q : OpenParts) → p.origin ≡ o → p.count ≡ x.count → q ≡ record p { held = x.index; bytes = p.bytes ++ x.bytes } → q ≡ record { origin = o; count = x.count; held = x.index; bytes = p.bytes ++ x.bytes }
one_more o x p q origin count e = e ∙ (λ i. record { origin = origin i; count = count i; held = x.index; bytes = p.bytes ++ x.bytes })

pub extends : (ps : List OpenParts) (o : Inc) (at : ℕ) (x : Part) (p q : OpenParts) → Follows ps o at x p → x.index < x.count → q ≡ record p { held = x.index; bytes = p.bytes ++ x.bytes } → set ps at q ≡ with_parts ps o (after_part o (parts_of ps o) x)
extends ps o at x p q f more e =
    let after = after_open o x p (goes_true ps o at x p f) (not_first p.held x.index f.fits.held_above f.index) (lt-ltb _ _ more) in
    let is : q ≡ record { origin = o; count = x.count; held = x.index; bytes = p.bytes ++ x.bytes } = one_more o x p q f.fits.origin f.count e in
    sym (parts_set ps o at q f.place f.there) ∙ ap (λ (y : OpenParts). with_parts ps o (Some y)) is ∙ ap (with_parts ps o) (sym after ∙ ap (λ (w : Option OpenParts). after_part o w x) (sym f.parts))

-- ---- the last part

pub last_becomes : (ps : List OpenParts) (o : Inc) (at : ℕ) (x : Part) (p : OpenParts) → Follows ps o at x p → x.index ≡ x.count → whole_or_void (p.bytes ++ x.bytes) ≡ becomes (parts_of ps o) x
last_becomes ps o at x p f e =
    let goes = goes_true ps o at x p f in
    let no_more : ltb x.index x.count ≡ false = grind (arith, nat_tests, e) in
    let last : eqb x.index x.count ≡ true = grind (arith, nat_tests, e) in
    let shut : is_open (Some p) x ≡ false = and_left (ltb x.index x.count) (eqb x.index 1 || goes_on (Some p) x) no_more in
    let ends : is_last (Some p) x ≡ true = and_from (eqb x.index x.count) (goes_on (Some p) x) last goes in
    let of_parts : becomes (Some p) x ≡ whole_or_void (p.bytes ++ x.bytes) = rw (becomes, shut, ends) refl in
    sym (ap (λ (w : Option OpenParts). becomes w x) f.parts ∙ of_parts)

pub last_ends : (ps : List OpenParts) (o : Inc) (at : ℕ) (x : Part) (p : OpenParts) → Follows ps o at x p → x.index ≡ x.count → remove ps at ≡ with_parts ps o (after_part o (parts_of ps o) x)
last_ends ps o at x p f e =
    let no_more : ltb x.index x.count ≡ false = grind (arith, nat_tests, e) in
    let shut : is_open (parts_of ps o) x ≡ false = and_left (ltb x.index x.count) (eqb x.index 1 || goes_on (parts_of ps o) x) no_more in
    let none : after_part o (parts_of ps o) x ≡ None = rw (after_part, shut) refl in
    sym (ap (with_parts ps o) none ∙ parts_remove ps o at f.place f.there)

-- ---- what is left open ascends

whole_part : (x : Part) → IsPart x → x.index < x.count → length x.bytes ≡ part_size
whole_part x is more =
    let other : eqb x.index x.count ≡ false = grind (arith, nat_tests, more) in
    let above : part_size ≤ length x.bytes = rw other at is.bytes_above in
    omega (arith, above, is.bytes_below)

joined_long : (o : Inc) (w : Option OpenParts) (x : Part) → IsPart x → IfSome w (IsOpenFor o) → x.index < x.count → (eqb x.index 1 || goes_on w x) ≡ true → length (joined_bytes w x) ≡ part_size * x.index
joined_long o w x is fits more h = by_test (eqb x.index 1) refl (whole_part x is more) h
  where
    go : (v : Option OpenParts) → IfSome v (IsOpenFor o) → goes_on v x ≡ true → length x.bytes ≡ part_size → length (bytes_before v ++ x.bytes) ≡ part_size * x.index
    go None f goes long = absurd cc
    go (Some p) f goes long =
        let both = and_parts (eqb p.count x.count) (eqb (p.held + 1) x.index) goes in
        let index : p.held + 1 ≡ x.index = eqb-true (p.held + 1) x.index both.1 in
        length-append p.bytes x.bytes ∙ omega (arith, long, f.bytes, index)

    by_test : (t : Bool) → eqb x.index 1 ≡ t → length x.bytes ≡ part_size → (t || goes_on w x) ≡ true → length (joined_bytes w x) ≡ part_size * x.index
    by_test true e long k = (let one : x.index ≡ 1 = eqb-true _ _ e in rw (joined_bytes, e) (omega (arith, long, one)))
    by_test false e long k = rw (joined_bytes, e) (go w fits k long)

pub after_fits : (o : Inc) (w : Option OpenParts) (x : Part) → IsPart x → IfSome w (IsOpenFor o) → IfSome (after_part o w x) (IsOpenFor o)
after_fits o w x is fits = by_test (is_open w x) refl
  where
    by_test : (t : Bool) → is_open w x ≡ t → IfSome (after_part o w x) (IsOpenFor o)
    by_test false e = rw (after_part, e) tt
    by_test true e =
        let both = and_parts (ltb x.index x.count) (eqb x.index 1 || goes_on w x) e in
        let more = ltb-true x.index x.count both.0 in
        rw (after_part, e) (record { origin = refl; held_above = is.index_above; held_below = more; count_below = is.count_below; bytes = joined_long o w x is fits more both.1 })

open_if : (ps : List OpenParts) (o : Inc) → IsChain IsOpenAfter None ps → IfSome (parts_of ps o) (IsOpenFor o)
open_if ps o chain = go (parts_of ps o) refl
  where
    go : (w : Option OpenParts) → parts_of ps o ≡ w → IfSome w (IsOpenFor o)
    go None e = tt
    go (Some p) e = parts_open ps None o p chain e

pub after_ascends : (ps : List OpenParts) (o : Inc) (x : Part) → IsChain IsOpenAfter None ps → IsInc o → IsPart x → IsChain IsOpenAfter None (with_parts ps o (after_part o (parts_of ps o) x))
after_ascends ps o x chain inc is = chain_with ps None o (after_part o (parts_of ps o) x) chain inc (after_fits o (parts_of ps o) x is (open_if ps o chain))

-- of what a call answers
pub either : {A E : Type 0} (r : Result A E) (new done old : List OpenParts) → OnOk r (new ≡ done) → OnErr r (new ≡ old) → IsChain IsOpenAfter None done → IsChain IsOpenAfter None old → IsChain IsOpenAfter None new
either (Ok x) new done old ok err d o = subst (λ (ps : List OpenParts). IsChain IsOpenAfter None ps) (sym ok) d
either (Err x) new done old ok err d o = subst (λ (ps : List OpenParts). IsChain IsOpenAfter None ps) (sym err) o
