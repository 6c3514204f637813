-- The list of a log, up to a place.
use Rattle.std.proofs.Common.{◌≡◌, inr, ℕ, suc, ◌+◌, ◌≤◌, Bool, true, false, Some, List, [], ◌∷◌, refl, sym, ap, subst, ◌∙◌, length, arith, leb}
use Rattle.std.specs.Prelude.{◌==◌}
use Rattle.std.proofs.lemmas.Bool.{le-leb, lt-leb, eqb-true}
use Rattle.slot_values.specs.declared.value.Value.{Value}
use Rattle.slot_values.specs.Log.{is_kept}
use Rattle.group_rules.specs.Events.{Took, Setup, Entry}
use Rattle.group_rules.specs.Life.{entry_at}
use Rattle.group_rules.specs.OneList.{reading_of, listed, before_slot}
use Rattle.group_laws.specs.Entries as law
use Rattle.group_laws.specs.Lists.{IsPast}
use Rattle.group_laws.specs.Lawful.{upto}
use Rattle.group_laws.proofs.Lists.{IsPast-self}
use Rattle.group_laws.proofs.Acks.{upto_past}
use Rattle.group_lives.specs.Lives.{placed}
use Rattle.group_lives.proofs.Taking.{places_agree}
use Rattle.group_order.proofs.Listed.{listed_place}
use Rattle.group_legal.specs.Bases.{list_of}
use Rattle.group_legal.proofs.Scanned.{takes, new_entry}

-- ---- up to a place

pub upto_all : {A : Type 0} (n : ℕ) (xs : List A) → length xs ≤ n → upto n xs ≡ xs
upto_all n [] h = refl
upto_all n (x ∷ xs) h = rw (le-leb (suc (length xs)) n h) refl

pub upto_zero : {A : Type 0} (xs : List A) → upto 0 xs ≡ []
upto_zero [] = refl
upto_zero (x ∷ xs) = rw (lt-leb (suc (length xs)) 0 (omega arith)) (upto_zero xs)

pub upto_less : {A : Type 0} (n : ℕ) (x : A) (xs : List A) → n ≤ length xs → upto n (x ∷ xs) ≡ upto n xs
upto_less n x xs h = rw (lt-leb (suc (length xs)) n (omega (arith, h))) refl

-- a past of a list is the list up to its length
pub past_is_upto : {A : Type 0} (p k : List A) → IsPast p k → p ≡ upto (length p) k
past_is_upto p k h = sym (upto_all (length p) p (omega arith)) ∙ sym (upto_past (length p) p k h (omega arith))

-- ---- the places of the list

pub list_length : (t : Setup) (log : List Value) → length (list_of t log) ≡ (reading_of t log).place
list_length t log = places_agree t [] (listed t log) (takes t [] log) ∙ listed_place t log

abbrev pub list_if : Setup → Value → List Value → Bool → List law.Placed
list_if t v log b = elim b [ true ↦ placed (new_entry t v log) ∷ list_of t log | false ↦ list_of t log ]

pub list_more : (t : Setup) (v : Value) (log : List Value) → list_of t (v ∷ log) ≡ list_if t v log (is_kept (reading_of t log) v)
list_more t v log = go (is_kept (reading_of t log) v) refl
  where
    go : (b : Bool) → is_kept (reading_of t log) v ≡ b → list_of t (v ∷ log) ≡ list_if t v log b
    go true e = rw (e, list_of) refl
    go false e = rw (e, list_of) refl

abbrev pub StandsAt : ℕ → Entry → List law.Placed → Type 0
StandsAt n x k = (suc n ≤ length k) × (upto (suc n) k ≡ placed x ∷ upto n k)

-- an entry of the list stands at its place
pub entry_stands : (t : Setup) (log : List Value) (n : ℕ) (x : Entry) → entry_at (listed t log) (suc n) ≡ Some x → StandsAt n x (list_of t log)
entry_stands t [] n x h = absurd (cc h)
entry_stands t (v ∷ log) n x h = go (is_kept (reading_of t log) v) refl (entry_stands t log n x)
  where
    S : List law.Placed
    S = list_of t log

    new : (e : Entry) → e ≡ new_entry t v log → (b : Bool) → (e.place == suc n) ≡ b → elim b [ true ↦ Some e | false ↦ entry_at (listed t log) (suc n) ] ≡ Some x → (entry_at (listed t log) (suc n) ≡ Some x → StandsAt n x S) → StandsAt n x (placed e ∷ S)
    new e q true y z f =
        let same : e ≡ x = cc in
        let place : e.place ≡ suc n = eqb-true e.place (suc n) y in
        let here : e.place ≡ (reading_of t log).place + 1 = ap (λ (u : Entry). u.place) q in
        let m = list_length t log in
        let long : length S ≡ n = omega (arith, place, here, m) in
        (omega (arith, long), rw (le-leb (suc (length S)) (suc n) (omega (arith, long))) (ap (λ (u : Entry). placed u ∷ S) same ∙ ap (λ k. placed x ∷ k) (sym (upto_all n S (omega (arith, long))) ∙ sym (upto_less n (placed e) S (omega (arith, long))))))
    new e q false y z f =
        let k = f z in
        let le : suc n ≤ length S = k.0 in
        (omega (arith, le), upto_less (suc n) (placed e) S le ∙ k.1 ∙ ap (λ l. placed x ∷ l) (sym (upto_less n (placed e) S (omega (arith, le)))))

    go : (b : Bool) → is_kept (reading_of t log) v ≡ b → (entry_at (listed t log) (suc n) ≡ Some x → StandsAt n x S) → StandsAt n x (list_of t (v ∷ log))
    go true e f =
        let q : entry_at (Took (new_entry t v log) ∷ listed t log) (suc n) ≡ Some x = rw (e, listed) at h in
        subst (StandsAt n x) (sym (list_more t v log ∙ ap (list_if t v log) e)) (new (new_entry t v log) refl ((new_entry t v log).place == suc n) refl q f)
    go false e f =
        let q : entry_at (listed t log) (suc n) ≡ Some x = rw (e, listed) at h in
        subst (StandsAt n x) (sym (list_more t v log ∙ ap (list_if t v log) e)) (f q)

-- the list of the log before a slot is the list up to its place
pub list_past : (t : Setup) (log : List Value) (s : ℕ) → IsPast (list_of t (before_slot log s)) (list_of t log)
list_past t [] s = IsPast-self (list_of t [])
list_past t (v ∷ log) s = go (leb s (suc (length log))) refl (list_past t log s)
  where
    less : (b : Bool) → (k : List law.Placed) → IsPast k (list_of t log) → IsPast k (list_if t v log b)
    less true k h = inr h
    less false k h = h

    go : (b : Bool) → leb s (suc (length log)) ≡ b → IsPast (list_of t (before_slot log s)) (list_of t log) → IsPast (list_of t (before_slot (v ∷ log) s)) (list_of t (v ∷ log))
    go true e h = rw (e, before_slot) (subst (λ k. IsPast (list_of t (before_slot log s)) k) (sym (list_more t v log)) (less (is_kept (reading_of t log) v) (list_of t (before_slot log s)) h))
    go false e h = rw (e, before_slot) (IsPast-self (list_of t (v ∷ log)))

pub list_before : (t : Setup) (log : List Value) (s : ℕ) → list_of t (before_slot log s) ≡ upto (reading_of t (before_slot log s)).place (list_of t log)
list_before t log s =
    past_is_upto (list_of t (before_slot log s)) (list_of t log) (list_past t log s)
    ∙ ap (λ n. upto n (list_of t log)) (list_length t (before_slot log s))
