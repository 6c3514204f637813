-- What happened, one thing after another.
use Rattle.std.proofs.Common.{eq-eqb, ◌≡◌, ◌⊎◌, inl, inr, ℕ, ◌+◌, ◌-◌, true, false, Some, List, [], ◌∷◌, ◌++◌, refl, ap, ◌∙◌, arith, length, take, length-append}
use Rattle.std.specs.Prelude.{map, ◌==◌}
use Rattle.gr_ids.specs.Names.{inc_eq}
use Rattle.gr_ids.specs.declared.names.Inc.{Inc}
use Rattle.slot_values.specs.declared.value.Value.{Value}
use Rattle.node_rules.specs.Lists.{In}
use Rattle.node_rules.proofs.Incs.{inc_same}
use Rattle.group_rules.specs.Events.{Did, Made, Life}
use Rattle.group_rules.specs.World.{Past, Does, Writes, Halts, life_in, dids}
use Rattle.group_rules.specs.Legal.{IsPast, WasMade}
use Rattle.group_bridge.specs.Moves.{Each}
use Rattle.group_runs.specs.Runs.{AllDid, running_in}

-- ---- lists

take_length : {A : Type 0} (xs ys : List A) → take (length xs) (xs ++ ys) ≡ xs
take_length [] ys = refl
take_length (x ∷ xs) ys = ap (λ l. x ∷ l) (take_length xs ys)

pub take_more : {A : Type 0} (xs ys : List A) → take (length (xs ++ ys) - length ys) (xs ++ ys) ≡ xs
take_more xs ys =
    let h : length (xs ++ ys) ≡ length xs + length ys = length-append xs ys in
    let e : length (xs ++ ys) - length ys ≡ length xs = omega (arith, h) in
    ap (λ n. take n (xs ++ ys)) e ∙ take_length xs ys

pub in_left : {A : Type 0} (x : A) (xs ys : List A) → In x xs → In x (xs ++ ys)
in_left x [] ys h = absurd h
in_left x (y ∷ xs) ys (inl e) = inl e
in_left x (y ∷ xs) ys (inr h) = inr (in_left x xs ys h)

pub in_right : {A : Type 0} (x : A) (xs ys : List A) → In x ys → In x (xs ++ ys)
in_right x [] ys h = h
in_right x (y ∷ xs) ys h = inr (in_right x xs ys h)

pub in_either : {A : Type 0} (x : A) (xs ys : List A) → In x (xs ++ ys) → In x xs ⊎ In x ys
in_either x [] ys h = inr h
in_either x (y ∷ xs) ys (inl e) = inl (inl e)
in_either x (y ∷ xs) ys (inr h) = elim (in_either x xs ys h) [ inl p ↦ inl (inr p) | inr q ↦ inr q ]

pub in_map : {A B : Type 0} (f : A → B) (x : A) (xs : List A) → In x xs → In (f x) (map f xs)
in_map f x [] h = absurd h
in_map f x (y ∷ xs) (inl e) = inl (ap f e)
in_map f x (y ∷ xs) (inr h) = inr (in_map f x xs h)

-- ---- the things that one incarnation did

pub life_of_dids : (i : Inc) (more : Life) (p : Past) → life_in (dids i more ++ p) i ≡ more ++ life_in p i
life_of_dids i [] p = refl
life_of_dids i (d ∷ more) p = ap (λ b. elim b [ true ↦ d ∷ life_in (dids i more ++ p) i | false ↦ life_in (dids i more ++ p) i ]) (inc_same i) ∙ ap (λ l. d ∷ l) (life_of_dids i more p)

pub life_of_others : (i j : Inc) (more : Life) (p : Past) → inc_eq i j ≡ false → life_in (dids i more ++ p) j ≡ life_in p j
life_of_others i j [] p h = refl
life_of_others i j (d ∷ more) p h = ap (λ b. elim b [ true ↦ d ∷ life_in (dids i more ++ p) j | false ↦ life_in (dids i more ++ p) j ]) h ∙ life_of_others i j more p h

pub running_of_dids : (i : Inc) (more : Life) (p : Past) → running_in p i.server ≡ Some i → running_in (dids i more ++ p) i.server ≡ Some i
running_of_dids i [] p h = h
running_of_dids i (d ∷ more) p h = ap (λ b. elim b [ true ↦ Some i | false ↦ running_in (dids i more ++ p) i.server ]) (eq-eqb i.server i.server refl)

pub running_of_others : (i : Inc) (more : Life) (p : Past) (n : ℕ) → (i.server == n) ≡ false → running_in (dids i more ++ p) n ≡ running_in p n
running_of_others i [] p n h = refl
running_of_others i (d ∷ more) p n h = ap (λ b. elim b [ true ↦ Some i | false ↦ running_in (dids i more ++ p) n ]) h ∙ running_of_others i more p n h

-- ---- pasts of a past

pub past_of_more : (ps p : Past) → IsPast p (ps ++ p)
past_of_more [] [] = refl
past_of_more [] (x ∷ p) = inl refl
past_of_more (x ∷ ps) p = inr (past_of_more ps p)

pub past_grows : (ps q p : Past) → IsPast q p → IsPast q (ps ++ p)
past_grows [] q p h = h
past_grows (x ∷ ps) q p h = inr (past_grows ps q p h)

pub made_grows : (ps p : Past) (v : Value) → WasMade p v → WasMade (ps ++ p) v
made_grows ps p v h = (h.0, in_right (Does v.id.origin (Made v h.0)) ps p h.1)

-- ---- what holds of all that was done

pub did_map : (P Q : Past → Inc → Did → Type 0) → ((p : Past) (i : Inc) (d : Did) → P p i d → Q p i d) → (p : Past) → AllDid P p → AllDid Q p
did_map P Q f [] h = tt
did_map P Q f (Does i d ∷ p) h = (f p i d h.0, did_map P Q f p h.1)
did_map P Q f (Writes n x ∷ p) h = did_map P Q f p h
did_map P Q f (Halts n ∷ p) h = did_map P Q f p h

-- one incarnation did these things more
pub did_more : (P : Past → Inc → Did → Type 0) (Q : Did → Life → Type 0) (i : Inc) (base : Life) (p : Past) → ((d : Did) (rest : Life) → Q d (rest ++ base) → P (dids i rest ++ p) i d) → (more : Life) → Each Q more base → AllDid P p → AllDid P (dids i more ++ p)
did_more P Q i base p f [] e h = h
did_more P Q i base p f (d ∷ more) e h = (f d more e.0, did_more P Q i base p f more e.1 h)
