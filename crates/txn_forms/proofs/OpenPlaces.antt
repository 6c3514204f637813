-- What the place of an origin's parts says of open parts that ascend by origin.
use Rattle.std.proofs.Common.{◌≡◌, ℕ, zero, suc, ◌*◌, ◌<◌, ◌≤◌, Bool, true, false, Option, Some, None, List, [], ◌∷◌, ◌++◌, length, get_or, set, take, drop, IfSome, refl, sym, ap, subst, ◌∙◌, arith, eqb, eqb-true}
use Rattle.std.specs.Prelude.{if◌then◌else◌}
use Rattle.std.specs.List.{slice_get, insert, remove}
use Rattle.std.specs.Option.{option_to_list}
use Rattle.std.proofs.lemmas.Bool.{and_parts, false≢true}
use Rattle.std.proofs.lemmas.Bool.Decides.{nat_tests}
use Rattle.byte_forms.specs.Lists.{IsChain}
use Rattle.gr_ids.specs.declared.names.Inc.{Inc}
use Rattle.gr_ids.specs.Names.{inc_eq, inc_lt}
use Rattle.gr_ids.specs.declared.names.OpenParts.{OpenParts}
use Rattle.name_forms.specs.Incs.{IsInc, IsIncAfter}
use Rattle.name_forms.specs.OpenParts.{IsOpenAfter, inc_of_parts, part_size, most_parts}
use Rattle.txn_forms.specs.Parts.{parts_of, with_parts}
use Rattle.txn_forms.specs.PartPlaces.{parts_before, is_of, has_parts}

-- ---- the order of incarnations

below_other : (a b : Inc) → inc_lt a b ≡ true → inc_eq a b ≡ false
below_other a b h = grind (arith, nat_tests)

above_other : (a b : Inc) → inc_lt b a ≡ true → inc_eq a b ≡ false
above_other a b h = grind (arith, nat_tests)

pub below_below : (a b c : Inc) → inc_lt a b ≡ true → inc_lt b c ≡ true → inc_lt a c ≡ true
below_below a b c h k = grind (arith, nat_tests)

inc_same : (a b : Inc) → inc_eq a b ≡ true → a ≡ b
inc_same a b h =
    let k = and_parts (eqb a.server b.server) (eqb a.start b.start) h in
    λ i. record { server = eqb-true a.server b.server k.0 i; start = eqb-true a.start b.start k.1 i }

pub else_above : (a b : Inc) → inc_lt a b ≡ false → inc_eq a b ≡ false → inc_lt b a ≡ true
else_above a b h k = grind (arith, nat_tests)

-- ---- where the place is

pub within-parts_before : (ps : List OpenParts) (o : Inc) → parts_before ps o ≤ length ps
within-parts_before [] o = omega arith
within-parts_before (p ∷ ps) o = by_test (within-parts_before ps o) (inc_lt p.origin o)
  where
    by_test : parts_before ps o ≤ length ps → (t : Bool) → (elim t [ true ↦ suc (parts_before ps o) | false ↦ 0 ]) ≤ suc (length ps)
    by_test later true = omega arith
    by_test later false = omega arith

-- parts that aren't below the origin stand at the place or behind it
pub place_le : (ps : List OpenParts) (o : Inc) (i : ℕ) (d : OpenParts) → i < length ps → inc_lt (get_or ps i d).origin o ≡ false → parts_before ps o ≤ i
place_le [] o i d lt h = absurd (omega arith)
place_le (p ∷ ps) o zero d lt h = rw (parts_before, h) (omega arith)
place_le (p ∷ ps) o (suc i) d lt h = by_test (place_le ps o i d (omega arith) h) (inc_lt p.origin o)
  where
    by_test : parts_before ps o ≤ i → (t : Bool) → (elim t [ true ↦ suc (parts_before ps o) | false ↦ 0 ]) ≤ suc i
    by_test later true = omega arith
    by_test later false = omega arith

first_below : (p : OpenParts) (ps : List OpenParts) (o : Inc) (i : ℕ) (d : OpenParts) → IsChain IsOpenAfter (Some p) ps → i < length ps → inc_lt (get_or ps i d).origin o ≡ true → inc_lt p.origin o ≡ true
first_below p [] o i d h lt b = absurd (omega arith)
first_below p (q ∷ qs) o zero d h lt b = below_below p.origin q.origin o h.0.origin.1 b
first_below p (q ∷ qs) o (suc i) d h lt b = below_below p.origin q.origin o h.0.origin.1 (first_below q qs o i d h.1 (omega arith) b)

-- parts that are below the origin stand before the place
pub place_gt : (ps : List OpenParts) (before : Option OpenParts) (o : Inc) (i : ℕ) (d : OpenParts) → IsChain IsOpenAfter before ps → i < length ps → inc_lt (get_or ps i d).origin o ≡ true → i < parts_before ps o
place_gt [] before o i d h lt b = absurd (omega arith)
place_gt (p ∷ ps) before o zero d h lt b = rw (parts_before, b) (omega arith)
place_gt (p ∷ ps) before o (suc i) d h lt b =
    let here = first_below p ps o i d h.1 (omega arith) b in
    let later = place_gt ps (Some p) o i d h.1 (omega arith) b in
    rw (parts_before, here) (omega arith)

-- ---- what stands there

-- where the origin's parts are there, they are the origin's
pub parts_there : (ps : List OpenParts) (o : Inc) (at : ℕ) → at ≡ parts_before ps o → has_parts ps at o ≡ true → parts_of ps o ≡ slice_get ps at
parts_there [] o at e h = absurd cc
parts_there (p ∷ ps) o at e h = go (inc_lt p.origin o) refl (λ k. parts_there ps o (parts_before ps o) refl k)
  where
    go : (t : Bool) → inc_lt p.origin o ≡ t → (has_parts ps (parts_before ps o) o ≡ true → parts_of ps o ≡ slice_get ps (parts_before ps o)) → parts_of (p ∷ ps) o ≡ slice_get (p ∷ ps) at
    go true f r =
        let z : at ≡ suc (parts_before ps o) = e ∙ (rw (parts_before, f) refl) in
        rw (parts_of, below_other p.origin o f, z) (r (rw z at h))
    go false f r =
        let z : at ≡ 0 = e ∙ (rw (parts_before, f) refl) in
        let same : inc_eq p.origin o ≡ true = (rw z at h) in
        rw (parts_of, same, z) refl

none_above : (p : OpenParts) (ps : List OpenParts) (o : Inc) → IsChain IsOpenAfter (Some p) ps → inc_lt o p.origin ≡ true → parts_of ps o ≡ None
none_above p [] o h b = refl
none_above p (q ∷ qs) o h b =
    let next = below_below o p.origin q.origin b h.0.origin.1 in
    rw (parts_of, above_other q.origin o next) (none_above q qs o h.1 next)

-- where they aren't, the origin has none
pub parts_nowhere : (ps : List OpenParts) (before : Option OpenParts) (o : Inc) (at : ℕ) → IsChain IsOpenAfter before ps → at ≡ parts_before ps o → has_parts ps at o ≡ false → parts_of ps o ≡ None
parts_nowhere [] before o at chain e h = refl
parts_nowhere (p ∷ ps) before o at chain e h = go (inc_lt p.origin o) refl (λ k. parts_nowhere ps (Some p) o (parts_before ps o) chain.1 refl k)
  where
    go : (t : Bool) → inc_lt p.origin o ≡ t → (has_parts ps (parts_before ps o) o ≡ false → parts_of ps o ≡ None) → parts_of (p ∷ ps) o ≡ None
    go true f r =
        let z : at ≡ suc (parts_before ps o) = e ∙ (rw (parts_before, f) refl) in
        rw (parts_of, below_other p.origin o f) (r (rw z at h))
    go false f r =
        let z : at ≡ 0 = e ∙ (rw (parts_before, f) refl) in
        let other : inc_eq p.origin o ≡ false = (rw z at h) in
        rw (parts_of, other) (none_above p ps o chain.1 (else_above p.origin o f other))

-- ---- what is put there

pub parts_set : (ps : List OpenParts) (o : Inc) (at : ℕ) (x : OpenParts) → at ≡ parts_before ps o → has_parts ps at o ≡ true → with_parts ps o (Some x) ≡ set ps at x
parts_set [] o at x e h = absurd cc
parts_set (p ∷ ps) o at x e h = go (inc_lt p.origin o) refl (λ k. parts_set ps o (parts_before ps o) x refl k)
  where
    go : (t : Bool) → inc_lt p.origin o ≡ t → (has_parts ps (parts_before ps o) o ≡ true → with_parts ps o (Some x) ≡ set ps (parts_before ps o) x) → with_parts (p ∷ ps) o (Some x) ≡ set (p ∷ ps) at x
    go true f r =
        let z : at ≡ suc (parts_before ps o) = e ∙ (rw (parts_before, f) refl) in
        rw (with_parts, f, z) (ap (λ l. p ∷ l) (r (rw z at h)))
    go false f r =
        let z : at ≡ 0 = e ∙ (rw (parts_before, f) refl) in
        let same : inc_eq p.origin o ≡ true = (rw z at h) in
        rw (with_parts, f, same, z) refl

pub parts_insert : (ps : List OpenParts) (o : Inc) (at : ℕ) (x : OpenParts) → at ≡ parts_before ps o → has_parts ps at o ≡ false → with_parts ps o (Some x) ≡ insert ps at x
parts_insert [] o at x e h = let z : at ≡ 0 = e in rw z refl
parts_insert (p ∷ ps) o at x e h = go (inc_lt p.origin o) refl (λ k. parts_insert ps o (parts_before ps o) x refl k)
  where
    go : (t : Bool) → inc_lt p.origin o ≡ t → (has_parts ps (parts_before ps o) o ≡ false → with_parts ps o (Some x) ≡ insert ps (parts_before ps o) x) → with_parts (p ∷ ps) o (Some x) ≡ insert (p ∷ ps) at x
    go true f r =
        let z : at ≡ suc (parts_before ps o) = e ∙ (rw (parts_before, f) refl) in
        rw (with_parts, f, z) (ap (λ l. p ∷ l) (r (rw z at h)))
    go false f r =
        let z : at ≡ 0 = e ∙ (rw (parts_before, f) refl) in
        let other : inc_eq p.origin o ≡ false = (rw z at h) in
        rw (with_parts, f, other, z) refl

pub parts_remove : (ps : List OpenParts) (o : Inc) (at : ℕ) → at ≡ parts_before ps o → has_parts ps at o ≡ true → with_parts ps o None ≡ remove ps at
parts_remove [] o at e h = absurd cc
parts_remove (p ∷ ps) o at e h = go (inc_lt p.origin o) refl (λ k. parts_remove ps o (parts_before ps o) refl k)
  where
    go : (t : Bool) → inc_lt p.origin o ≡ t → (has_parts ps (parts_before ps o) o ≡ true → with_parts ps o None ≡ remove ps (parts_before ps o)) → with_parts (p ∷ ps) o None ≡ remove (p ∷ ps) at
    go true f r =
        let z : at ≡ suc (parts_before ps o) = e ∙ (rw (parts_before, f) refl) in
        rw (with_parts, f, z) (ap (λ l. p ∷ l) (r (rw z at h)))
    go false f r =
        let z : at ≡ 0 = e ∙ (rw (parts_before, f) refl) in
        let same : inc_eq p.origin o ≡ true = (rw z at h) in
        rw (with_parts, f, same, z) refl

pub parts_stay : (ps : List OpenParts) (o : Inc) (at : ℕ) → at ≡ parts_before ps o → has_parts ps at o ≡ false → with_parts ps o None ≡ ps
parts_stay [] o at e h = refl
parts_stay (p ∷ ps) o at e h = go (inc_lt p.origin o) refl (λ k. parts_stay ps o (parts_before ps o) refl k)
  where
    go : (t : Bool) → inc_lt p.origin o ≡ t → (has_parts ps (parts_before ps o) o ≡ false → with_parts ps o None ≡ ps) → with_parts (p ∷ ps) o None ≡ p ∷ ps
    go true f r =
        let z : at ≡ suc (parts_before ps o) = e ∙ (rw (parts_before, f) refl) in
        rw (with_parts, f) (ap (λ l. p ∷ l) (r (rw z at h)))
    go false f r =
        let z : at ≡ 0 = e ∙ (rw (parts_before, f) refl) in
        let other : inc_eq p.origin o ≡ false = (rw z at h) in
        rw (with_parts, f, other) refl

pub has_within : (ps : List OpenParts) (at : ℕ) (o : Inc) → has_parts ps at o ≡ true → at < length ps
has_within [] at o h = absurd cc
has_within (p ∷ ps) zero o h = omega arith
has_within (p ∷ ps) (suc at) o h = omega (arith, has_within ps at o h)

-- ---- what is put there ascends

-- the parts of an origin that are open
pub record IsOpenFor (o : Inc) (x : OpenParts) : Type 0 where
  pub origin : x.origin ≡ o
  pub held_above : 1 ≤ x.held
  pub held_below : x.held < x.count
  pub count_below : x.count ≤ most_parts
  pub bytes : length x.bytes ≡ part_size * x.held

opens : (before : Option OpenParts) (o : Inc) (x : OpenParts) → IsIncAfter (inc_of_parts before) o → IsOpenFor o x → IsOpenAfter before x
opens before o x h f = record { origin = subst (λ (i : Inc). IsIncAfter (inc_of_parts before) i) (sym f.origin) h; held_above = f.held_above; held_below = f.held_below; count_below = f.count_below; bytes = f.bytes }

is_inc : (before : Option OpenParts) (i : Inc) → IsIncAfter (inc_of_parts before) i → IsInc i
is_inc None i h = h
is_inc (Some b) i h = h.0

-- behind parts of the same origin
chain_move : (p x : OpenParts) (ps : List OpenParts) → p.origin ≡ x.origin → IsChain IsOpenAfter (Some p) ps → IsChain IsOpenAfter (Some x) ps
chain_move p x [] e h = tt
chain_move p x (q ∷ qs) e h =
    (record { origin = subst (λ (i : Inc). IsIncAfter (Some i) q.origin) e h.0.origin; held_above = h.0.held_above; held_below = h.0.held_below; count_below = h.0.count_below; bytes = h.0.bytes }, h.1)

-- behind those before the first ones, which are gone
chain_skip : (before : Option OpenParts) (p : OpenParts) (ps : List OpenParts) → IsOpenAfter before p → IsChain IsOpenAfter (Some p) ps → IsChain IsOpenAfter before ps
chain_skip before p [] first h = tt
chain_skip before p (q ∷ qs) first h = (record { origin = above before first.origin; held_above = h.0.held_above; held_below = h.0.held_below; count_below = h.0.count_below; bytes = h.0.bytes }, h.1)
  where
    above : (b : Option OpenParts) → IsIncAfter (inc_of_parts b) p.origin → IsIncAfter (inc_of_parts b) q.origin
    above None k = h.0.origin.0
    above (Some b) k = (h.0.origin.0, below_below b.origin p.origin q.origin k.1 h.0.origin.1)

pub chain_with : (ps : List OpenParts) (before : Option OpenParts) (o : Inc) (w : Option OpenParts) → IsChain IsOpenAfter before ps → IsIncAfter (inc_of_parts before) o → IfSome w (IsOpenFor o) → IsChain IsOpenAfter before (with_parts ps o w)
chain_with [] before o None h i f = tt
chain_with [] before o (Some x) h i f = (opens before o x i f, tt)
chain_with (p ∷ ps) before o w h i f = by_order (inc_lt p.origin o) refl (λ k. chain_with ps (Some p) o w h.1 (is_inc before o i, k) f)
  where
    put : (s : Option OpenParts) → IfSome s (IsOpenFor o) → inc_lt p.origin o ≡ false → (t : Bool) → inc_eq p.origin o ≡ t → IsChain IsOpenAfter before (option_to_list s ++ elim t [ true ↦ ps | false ↦ p ∷ ps ])
    put None g low true e = chain_skip before p ps h.0 h.1
    put None g low false e = h
    put (Some x) g low true e = (opens before o x i g, chain_move p x ps (inc_same p.origin o e ∙ sym g.origin) h.1)
    put (Some x) g low false e =
        let above : inc_lt o p.origin ≡ true = else_above p.origin o low e in
        let next : IsOpenAfter (Some x) p = record {
          origin = (is_inc before p.origin h.0.origin, subst (λ (j : Inc). inc_lt j p.origin ≡ true) (sym g.origin) above);
          held_above = h.0.held_above;
          held_below = h.0.held_below;
          count_below = h.0.count_below;
          bytes = h.0.bytes;
        } in
        (opens before o x i g, (next, h.1))

    by_order : (t : Bool) → inc_lt p.origin o ≡ t → (inc_lt p.origin o ≡ true → IsChain IsOpenAfter (Some p) (with_parts ps o w)) → IsChain IsOpenAfter before (with_parts (p ∷ ps) o w)
    by_order true e later = rw (with_parts, e) (h.0, later e)
    by_order false e later = rw (with_parts, e) (put w f e (inc_eq p.origin o) refl)

-- the parts of an origin are as those of the list
pub parts_open : (ps : List OpenParts) (before : Option OpenParts) (o : Inc) (x : OpenParts) → IsChain IsOpenAfter before ps → parts_of ps o ≡ Some x → IsOpenFor o x
parts_open [] before o x h e = absurd cc
parts_open (p ∷ ps) before o x h e = go (inc_eq p.origin o) refl (λ k. parts_open ps (Some p) o x h.1 k)
  where
    go : (t : Bool) → inc_eq p.origin o ≡ t → (parts_of ps o ≡ Some x → IsOpenFor o x) → IsOpenFor o x
    go false f later = later (rw (parts_of, f) at e)
    go true f later =
        let first : Some p ≡ Some x = (rw (parts_of, f) at e) in
        let same : p ≡ x = cc in
        let here : IsOpenFor o p = record { origin = inc_same p.origin o f; held_above = h.0.held_above; held_below = h.0.held_below; count_below = h.0.count_below; bytes = h.0.bytes } in
        subst (IsOpenFor o) same here

pub remove_set : (ps : List OpenParts) (at : ℕ) (y : OpenParts) → remove (set ps at y) at ≡ remove ps at
remove_set [] at y = refl
remove_set (p ∷ ps) zero y = refl
remove_set (p ∷ ps) (suc at) y = ap (λ l. p ∷ l) (remove_set ps at y)

pub chain_without : (ps : List OpenParts) (before : Option OpenParts) (o : Inc) → IsChain IsOpenAfter before ps → IsChain IsOpenAfter before (with_parts ps o None)
chain_without [] before o h = tt
chain_without (p ∷ ps) before o h = by_order (inc_lt p.origin o) refl (chain_without ps (Some p) o h.1)
  where
    take_out : (t : Bool) → IsChain IsOpenAfter before (elim t [ true ↦ ps | false ↦ p ∷ ps ])
    take_out true = chain_skip before p ps h.0 h.1
    take_out false = h

    by_order : (t : Bool) → inc_lt p.origin o ≡ t → IsChain IsOpenAfter (Some p) (with_parts ps o None) → IsChain IsOpenAfter before (with_parts (p ∷ ps) o None)
    by_order true e later = rw (with_parts, e) (h.0, later)
    by_order false e later = rw (with_parts, e) (take_out (inc_eq p.origin o))

-- ---- what is found after it was put

found_front : (p : OpenParts) (ps : List OpenParts) (q : Inc) → parts_of (p ∷ ps) q ≡ (if inc_eq p.origin q then Some p else parts_of ps q)
found_front p ps q = go (inc_eq p.origin q) refl
  where
    go : (t : Bool) → inc_eq p.origin q ≡ t → parts_of (p ∷ ps) q ≡ (if inc_eq p.origin q then Some p else parts_of ps q)
    go true e = rw (parts_of, e) refl
    go false e = rw (parts_of, e) refl

either_way : (t : Bool) (w : Option OpenParts) → w ≡ (if t then w else w)
either_way true w = refl
either_way false w = refl

-- behind the parts of an origin there are no others of it
none_above_same : (p : OpenParts) (ps : List OpenParts) (o : Inc) → IsChain IsOpenAfter (Some p) ps → inc_eq p.origin o ≡ true → parts_of ps o ≡ None
none_above_same p [] o h e = refl
none_above_same p (q ∷ qs) o h e =
    let above : inc_lt o q.origin ≡ true = ap (λ (i : Inc). inc_lt i q.origin) (sym (inc_same p.origin o e)) ∙ h.0.origin.1 in
    rw (parts_of, above_other q.origin o above) (none_above q qs o h.1 above)

pub parts_of-with_parts : (ps : List OpenParts) (before : Option OpenParts) (o q : Inc) (w : Option OpenParts) → IsChain IsOpenAfter before ps → IfSome w (λ p. p.origin ≡ o) → parts_of (with_parts ps o w) q ≡ (if inc_eq o q then w else parts_of ps q)
parts_of-with_parts [] before o q None h f = either_way (inc_eq o q) None
parts_of-with_parts [] before o q (Some x) h f = found_front x [] q ∙ ap (λ (i : Inc). if inc_eq i q then Some x else None) f
parts_of-with_parts (p ∷ ps) before o q w h f = by_order (inc_lt p.origin o) refl (parts_of-with_parts ps (Some p) o q w h.1 f)
  where
    -- the first one isn't the origin's
    pass : inc_eq p.origin o ≡ false → (s : Option OpenParts) → s ≡ (if inc_eq o q then w else parts_of ps q) → (if inc_eq p.origin q then Some p else s) ≡ (if inc_eq o q then w else parts_of (p ∷ ps) q)
    pass other s e = go (inc_eq o q) (inc_eq p.origin q) refl refl e
      where
        go : (t u : Bool) → inc_eq o q ≡ t → inc_eq p.origin q ≡ u → s ≡ (if t then w else parts_of ps q) → (if u then Some p else s) ≡ (if t then w else parts_of (p ∷ ps) q)
        go true true et eu k =
            let same : inc_eq p.origin o ≡ true = ap (inc_eq p.origin) (inc_same o q et) ∙ eu in
            absurd (false≢true (sym other ∙ same))
        go true false et eu k = k
        go false true et eu k = sym (found_front p ps q ∙ ap (λ (t : Bool). if t then Some p else parts_of ps q) eu)
        go false false et eu k = k ∙ sym (found_front p ps q ∙ ap (λ (t : Bool). if t then Some p else parts_of ps q) eu)

    put : (s : Option OpenParts) → IfSome s (λ x. x.origin ≡ o) → inc_lt p.origin o ≡ false → (t : Bool) → inc_eq p.origin o ≡ t → parts_of (option_to_list s ++ elim t [ true ↦ ps | false ↦ p ∷ ps ]) q ≡ (if inc_eq o q then s else parts_of (p ∷ ps) q)
    put None g low true e =
        gone (inc_eq o q) refl
      where
        gone : (t : Bool) → inc_eq o q ≡ t → parts_of ps q ≡ (if t then None else parts_of (p ∷ ps) q)
        gone true et = none_above_same p ps q h.1 (ap (λ (i : Inc). inc_eq i q) (inc_same p.origin o e) ∙ et)
        gone false et = sym (found_front p ps q ∙ ap (λ (t : Bool). if t then Some p else parts_of ps q) (ap (λ (i : Inc). inc_eq i q) (inc_same p.origin o e) ∙ et))
    put None g low false e = stays (inc_eq o q) refl
      where
        stays : (t : Bool) → inc_eq o q ≡ t → parts_of (p ∷ ps) q ≡ (if t then None else parts_of (p ∷ ps) q)
        stays true et =
            let above = else_above p.origin o low e in
            let at_q : inc_lt q p.origin ≡ true = ap (λ (i : Inc). inc_lt i p.origin) (sym (inc_same o q et)) ∙ above in
            rw (parts_of, above_other p.origin q at_q) (none_above p ps q h.1 at_q)
        stays false et = refl
    put (Some x) g low t e = found_front x _ q ∙ ap (λ (i : Inc). if inc_eq i q then Some x else parts_of (elim t [ true ↦ ps | false ↦ p ∷ ps ]) q) g ∙ others t e (inc_eq o q) refl
      where
        others : (t : Bool) → inc_eq p.origin o ≡ t → (u : Bool) → inc_eq o q ≡ u → (if u then Some x else parts_of (elim t [ true ↦ ps | false ↦ p ∷ ps ]) q) ≡ (if u then Some x else parts_of (p ∷ ps) q)
        others t e true eu = refl
        others false e false eu = refl
        others true e false eu = sym (found_front p ps q ∙ ap (λ (t : Bool). if t then Some p else parts_of ps q) (ap (λ (i : Inc). inc_eq i q) (inc_same p.origin o e) ∙ eu))

    by_order : (t : Bool) → inc_lt p.origin o ≡ t → parts_of (with_parts ps o w) q ≡ (if inc_eq o q then w else parts_of ps q) → parts_of (with_parts (p ∷ ps) o w) q ≡ (if inc_eq o q then w else parts_of (p ∷ ps) q)
    by_order true e later = rw (with_parts, e) (found_front p (with_parts ps o w) q ∙ pass (below_other p.origin o e) (parts_of (with_parts ps o w) q) later)
    by_order false e later = rw (with_parts, e) (put w f e (inc_eq p.origin o) refl)
