-- The parts that own values leave open, and what the places of such values hold.
use Rattle.std.proofs.Common.{◌≡◌, inl, inr, ℕ, zero, suc, ◌+◌, ◌*◌, ◌≤◌, ◌<◌, Bool, true, false, ◌&&◌, ◌||◌, Option, Some, None, List, [], ◌∷◌, ◌++◌, refl, sym, ap, subst, ◌∙◌, length, take, drop, arith, eqb, eq-eqb}
use Rattle.std.specs.Prelude.{◌==◌, if◌then◌else◌}
use Rattle.std.proofs.lemmas.Bool.{cases_Bool, eqb-true, lt-ltb, le-leb}
use Rattle.std.proofs.lemmas.List.{length-take, length-drop, take_all}
use Rattle.byte_forms.specs.Reads.{value_of}
use Rattle.byte_forms.proofs.FormLemmas.{whole_read}
use Rattle.name_forms.specs.OpenParts.{part_size}
use Rattle.gr_ids.specs.declared.names.Inc.{Inc}
use Rattle.gr_ids.specs.declared.names.OpenParts.{OpenParts}
use Rattle.slot_values.specs.declared.value.Value.{Value}
use Rattle.slot_values.specs.declared.value.What.{What}
use Rattle.slot_values.specs.declared.value.What.TheVariants.{Noop, Add, Remove, Body as Says}
use Rattle.txn_forms.specs.declared.body.Body.{Body}
use Rattle.txn_forms.specs.declared.body.Body.TheVariants.{Txn as Writes, Prepared, Sync, Executed, Online as Arrives, Mode as Switches, Primary as Appoints, Part as PartOf}
use Rattle.txn_forms.specs.declared.body.Part.{Part}
use Rattle.txn_forms.specs.declared.body.Txn.{Txn}
use Rattle.txn_forms.specs.Bodies.{IsPart, body_bytes, read_body}
use Rattle.txn_forms.specs.Parts.{whole_bytes, most_bytes, goes_on, bytes_before, after_part, if_txn, joined}
use Rattle.group_rules.specs.declared.marks.Effect.{Effect}
use Rattle.group_rules.specs.declared.marks.Effect.TheVariants.{Plain}
use Rattle.group_rules.specs.Parts.{open_after, joined_or, held_body, held_part, held}
use Rattle.group_laws.specs.Entries as law
use Rattle.group_laws.specs.Entries.{unplaced}
use Rattle.group_lives.specs.Lives.{does_body, does_entry}
use Rattle.group_legal.specs.OwnRanges.{InRange, ReadBack}
use Rattle.group_legal.proofs.CutParts.{part_at, first_parts, parts_in, cut_is, joined_more, IsCount, counted}
use Rattle.group_legal.proofs.OwnValues.{Own, PartsMade, IsLastOf, HoldsOwn, Fits, AreOwn}

-- the parts that an origin's own values leave open
abbrev pub open_own : Inc → List Own → Option OpenParts
open_own o [] = None
open_own o (x ∷ xs) = open_after o (held (open_own o xs) x.value.what) (open_own o xs)

-- the first n of so many parts are open
abbrev opened : Inc → ℕ → ℕ → List ℕ → OpenParts
opened o n c b = record { origin = o; count = c; held = n; bytes = take (n * part_size) b }

-- ---- one part more

same_number : (a b : ℕ) → a ≡ b → eqb a b ≡ true
same_number a b e = eq-eqb a b e

other_number : (a b : ℕ) → (a ≡ b → ⊥) → eqb a b ≡ false
other_number a b h = elim (cases_Bool (eqb a b)) [ inl q ↦ absurd (h (eqb-true a b q)) | inr q ↦ q ]

first_opens : (o : Inc) (w : Option OpenParts) (c : ℕ) (b : List ℕ) → 1 < c → after_part o w (part_at 0 c b) ≡ Some (opened o 1 c b)
first_opens o w c b h = ap (λ (t : Bool). elim (t && true) [ true ↦ Some (opened o 1 c b) | false ↦ None ]) (lt-ltb 1 c h)

next_opens : (o : Inc) (n c : ℕ) (b : List ℕ) → suc (suc n) < c
    → after_part o (Some (opened o (suc n) c b)) (part_at (suc n) c b) ≡ Some (opened o (suc (suc n)) c b)
next_opens o n c b h =
    let more = lt-ltb (suc (suc n)) c h in
    let later = other_number (suc (suc n)) 1 (λ e. omega (arith, e)) in
    let goes = same_number c c refl in
    let on = same_number (suc n + 1) (suc (suc n)) (omega arith) in
    (λ k. elim (more k && (later k || (goes k && on k))) [
      | true ↦ Some (record { origin = o; count = c; held = suc (suc n); bytes = elim (later k) [ true ↦ take part_size (drop (suc n * part_size) b) | false ↦ take (suc n * part_size) b ++ take part_size (drop (suc n * part_size) b) ] })
      | false ↦ None
    ])
    ∙ ap (λ y. Some (record { origin = o; count = c; held = suc (suc n); bytes = y })) (joined_more (suc n) b)

module _ (reads : ReadBack) where
  read_own : (b : Body) → InRange b → read_body (body_bytes b) ≡ Some b
  read_own b f = ap value_of (whole_read reads b f)

  part_held : (w : Option OpenParts) (p : Part) → InRange (PartOf p) → (p.index == p.count) ≡ false
      → held w (Says (body_bytes (PartOf p))) ≡ Some (PartOf p)
  part_held w p f e =
      ap (held_body w) (read_own (PartOf p) f)
      ∙ ap (λ (t : Bool). elim (t && goes_on w p) [ true ↦ joined_or (PartOf p) (joined (bytes_before w ++ p.bytes)) | false ↦ Some (PartOf p) ]) e

  module _ (o : Inc) where
    -- what was left open after one more of its parts
    part_left : (x : Own) (xs : List Own) (p : Part) → AreOwn o (x ∷ xs) → x.holds ≡ Some (PartOf p)
        → open_own o (x ∷ xs) ≡ after_part o (open_own o xs) p
    part_left x xs p k e =
        let says : HoldsOwn xs x.value (Some (PartOf p)) = subst (HoldsOwn xs x.value) e k.0.2 in
        let fits : InRange (PartOf p) = subst Fits e k.0.3 in
        ap (λ w. open_after o (held (open_own o xs) w) (open_own o xs)) says.0
        ∙ ap (λ y. open_after o y (open_own o xs)) (part_held (open_own o xs) p fits says.1)

    -- the first parts of a transaction are open once they are made
    parts_open : (n c : ℕ) (b : List ℕ) (xs : List Own) → AreOwn o xs → PartsMade (first_parts (suc n) c b) xs → suc n < c
        → open_own o xs ≡ Some (opened o (suc n) c b)
    parts_open n c b [] k m h = absurd m
    parts_open zero c b (x ∷ xs) k m h = part_left x xs (part_at 0 c b) k m.0 ∙ first_opens o (open_own o xs) c b h
    parts_open (suc n) c b (x ∷ xs) k m h =
        part_left x xs (part_at (suc n) c b) k m.0
        ∙ ap (λ w. after_part o w (part_at (suc n) c b)) (parts_open n c b xs k.1 m.1 (omega (arith, h)))
        ∙ next_opens o n c b h

    -- ---- the last part

    last_fits : (n : ℕ) (b : List ℕ) → IsCount (length b) (suc (suc n)) → IsPart (part_at (suc n) (suc (suc n)) b)
    last_fits n b h =
        let two = h.two in
        let few = h.few in
        let needed = h.needed in
        let behind = length-drop (suc n * part_size) b in
        let long = length-take part_size (drop (suc n * part_size) b) in
        let some : 1 ≤ length (take part_size (drop (suc n * part_size) b)) = omega (arith, needed, behind, long) in
        record {
          index_above = omega arith;
          index_below = omega arith;
          count_above = two;
          count_below = few;
          bytes_above = subst (λ (t : Bool). (if t then 1 else part_size) ≤ length (take part_size (drop (suc n * part_size) b))) (sym (same_number (suc (suc n)) (suc (suc n)) refl)) some;
          bytes_below = omega (arith, long);
        }

    whole_again : (n : ℕ) (b : List ℕ) → IsCount (length b) (suc (suc n))
        → take (suc n * part_size) b ++ take part_size (drop (suc n * part_size) b) ≡ b
    whole_again n b h = joined_more (suc n) b ∙ take_all (suc (suc n) * part_size) b h.enough

    spells_txn : (t : Txn) → InRange (Writes t) → whole_bytes < length (body_bytes (Writes t)) → length (body_bytes (Writes t)) ≤ most_bytes
        → joined (body_bytes (Writes t)) ≡ Some (Writes t)
    spells_txn t f large most =
        let a = lt-ltb whole_bytes (length (body_bytes (Writes t))) large in
        let c = le-leb (length (body_bytes (Writes t))) most_bytes most in
        let r = read_own (Writes t) f in
        λ k. elim (a k && c k) [ true ↦ if_txn (r k) | false ↦ None ]

    last_ends : (n : ℕ) (b : List ℕ) → IsCount (length b) (suc (suc n))
        → held_part (Some (opened o (suc n) (suc (suc n)) b)) (part_at (suc n) (suc (suc n)) b) ≡ joined_or (PartOf (part_at (suc n) (suc (suc n)) b)) (joined b)
    last_ends n b h =
        let same = same_number (suc (suc n)) (suc (suc n)) refl in
        let on = same_number (suc n + 1) (suc (suc n)) (omega arith) in
        (λ k. elim (same k && (same k && on k)) [
          | true ↦ joined_or (PartOf (part_at (suc n) (suc (suc n)) b)) (joined (whole_again n b h k))
          | false ↦ Some (PartOf (part_at (suc n) (suc (suc n)) b))
        ])

    -- with the last part the whole transaction is held
    last_held : (xs : List Own) (v : Value) (t : Txn) → AreOwn o xs → InRange (Writes t) → IsLastOf xs v t
        → held (open_own o xs) v.what ≡ Some (Writes t)
    last_held xs v t k f h = go (parts_in b) (counted (length b) h.large h.most) (cut_is (h.last ∷ h.parts) b h.all)
      where
        b : List ℕ
        b = body_bytes (Writes t)

        at_end : (n : ℕ) → IsCount (length b) (suc (suc n)) → h.last ≡ part_at (suc n) (suc (suc n)) b
            → h.parts ≡ first_parts (suc n) (suc (suc n)) b → held (open_own o xs) v.what ≡ Some (Writes t)
        at_end n c e q =
            let p : Part = part_at (suc n) (suc (suc n)) b in
            let before : open_own o xs ≡ Some (opened o (suc n) (suc (suc n)) b) = parts_open n (suc (suc n)) b xs k (subst (λ ps. PartsMade ps xs) q h.made) (omega arith) in
            (λ j. held (before j) ((h.says ∙ ap (λ y. Says (body_bytes (PartOf y))) e) j))
            ∙ ap (held_body (Some (opened o (suc n) (suc (suc n)) b))) (read_own (PartOf p) (last_fits n b c, tt))
            ∙ last_ends n b c
            ∙ ap (joined_or (PartOf p)) (spells_txn t f h.large h.most)

        go : (c : ℕ) → IsCount (length b) c → h.last ∷ h.parts ≡ first_parts c c b → held (open_own o xs) v.what ≡ Some (Writes t)
        go zero n e = absurd (cc e)
        go (suc zero) n e = let two = n.two in absurd (omega (arith, two))
        go (suc (suc n)) c e =
            let last : h.last ≡ part_at (suc n) (suc (suc n)) b = cc in
            let parts : h.parts ≡ first_parts (suc n) (suc (suc n)) b = cc in
            at_end n c last parts

    -- ---- what a place does, and what its value was made for

    abbrev Does : List Own → Value → Option Body → Type 0
    Does xs v b = (e : Effect) → unplaced (does_entry v.what e (held (open_own o xs) v.what)) ≡ does_body b

    -- what says this body
    said : (xs : List Own) (v : Value) (b : Body) → InRange b → v.what ≡ Says (body_bytes b)
        → ((w : Option OpenParts) → held_body w (Some b) ≡ Some b) → (unplaced (does_body (Some b)) ≡ does_body (Some b)) → Does xs v (Some b)
    said xs v b f h n q e =
        ap (λ w. unplaced (does_entry w e (held (open_own o xs) w))) h
        ∙ ap (λ y. unplaced (does_body (held_body (open_own o xs) y))) (read_own b f)
        ∙ ap (λ y. unplaced (does_body y)) (n (open_own o xs))
        ∙ q

    -- a joined transaction
    txn_said : (xs : List Own) (v : Value) (t : Txn) (p : Part) → v.what ≡ Says (body_bytes (PartOf p))
        → held (open_own o xs) v.what ≡ Some (Writes t) → Does xs v (Some (Writes t))
    txn_said xs v t p h q e = ap (λ y. unplaced (does_entry v.what e y)) q ∙ ap (λ w. unplaced (does_entry w e (Some (Writes t)))) h

    -- an Add or a Remove is made as nothing, whatever its effect is to be
    unsaid : (xs : List Own) (v : Value) → ((b : List ℕ) → v.what ≡ Says b → ⊥) → Does xs v None
    unsaid xs v h e = go v.what refl
      where
        go : (w : What) → v.what ≡ w → unplaced (does_entry w e (held (open_own o xs) w)) ≡ law.Plain
        go Noop q = refl
        go (Add j) q = by e
          where
            by : (f : Effect) → unplaced (does_entry (Add j) f None) ≡ law.Plain
            by Plain = refl
            by f = refl
        go (Remove i) q = by e
          where
            by : (f : Effect) → unplaced (does_entry (Remove i) f None) ≡ law.Plain
            by Plain = refl
            by f = refl
        go (Says b) q = absurd (h b q)

    pub does_as_made : (xs : List Own) (v : Value) (b : Option Body) → AreOwn o xs → Fits b → HoldsOwn xs v b → Does xs v b
    does_as_made xs v None k f h = unsaid xs v h
    does_as_made xs v (Some (Writes t)) k f (inl h) = said xs v (Writes t) f h (λ w. refl) refl
    does_as_made xs v (Some (Writes t)) k f (inr h) = txn_said xs v t h.last h.says (last_held xs v t k f h)
    does_as_made xs v (Some (Prepared g)) k f h = said xs v (Prepared g) f h (λ w. refl) refl
    does_as_made xs v (Some Sync) k f h = said xs v Sync f h (λ w. refl) refl
    does_as_made xs v (Some (Executed s)) k f h = said xs v (Executed s) f h (λ w. refl) refl
    does_as_made xs v (Some (Arrives s)) k f h = said xs v (Arrives s) f h (λ w. refl) refl
    does_as_made xs v (Some (Switches m)) k f h = said xs v (Switches m) f h (λ w. refl) refl
    does_as_made xs v (Some (Appoints i)) k f h = said xs v (Appoints i) f h (λ w. refl) refl
    does_as_made xs v (Some (PartOf p)) k f h =
        λ e. ap (λ w. unplaced (does_entry w e (held (open_own o xs) w))) h.0 ∙ ap (λ y. unplaced (does_body y)) (part_held (open_own o xs) p f h.1)
