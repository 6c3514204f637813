-- Digits and UUIDs at the front of a text.
use Rattle.std.proofs.Common.{◌≡◌, ℕ, suc, ◌+◌, ◌≤◌, ◌<◌, Bool, true, false, cond, Option, Some, None, Result, Ok, Err, List, [], ◌∷◌, length, take, drop, refl, sym, ap, ◌∙◌, ◌-◌, arith, eqb}
use Rattle.std.proofs.lemmas.Bool.{and_from, ne_eqb}
use Rattle.std.proofs.lemmas.List.{take_all}
use Rattle.std.specs.List.{prefix_len, list_all}
use Rattle.std.specs.Char.{is_ascii_digit}
use Rattle.std.specs.Bool.{IsTrue}
use Rattle.gr_ids.specs.Uuids.{uuid_of}
use Rattle.gtid_sets.specs.declared.faults.TextFault.{TextFault}
use Rattle.gtid_sets.specs.declared.faults.TextFault.TheVariants.{Memory, BadUuid, BadInterval, BadNumber, Trailing}
use Rattle.gtid_sets.specs.declared.scanner.Joint.{Joint}
use Rattle.gtid_sets.specs.declared.scanner.Joint.TheVariants.{End, Interval as ColonJoint, Source as CommaJoint}
use Rattle.gtid_sets.specs.Sets.{Run, Gtids, with_run}
use Rattle.gtid_sets.specs.Scans.{IsFaultIn}
use Rattle.gtid_sets.specs.Grammar.{Scan, Found, Refused, place, after_blanks, next_uuid, next_run, next_joint, source_behind, behind_run, from_run, runs_in, front_set, set_of}

all_prefix : (p : ℕ → Bool) (xs : List ℕ) → list_all p (take (prefix_len p xs) xs) ≡ true
all_prefix p [] = refl
all_prefix p (x ∷ xs) = by_test (p x) refl (all_prefix p xs)
  where
    one : 1 + prefix_len p xs ≡ suc (prefix_len p xs)
    one = omega arith

    by_test : (t : Bool) → t ≡ p x → list_all p (take (prefix_len p xs) xs) ≡ true → list_all p (take (cond t (1 + prefix_len p xs) 0) (x ∷ xs)) ≡ true
    by_test true e later = ap (λ k. list_all p (take k (x ∷ xs))) one ∙ and_from (p x) (list_all p (take (prefix_len p xs) xs)) (sym e) later
    by_test false e later = refl

pub all_digits : (text : List ℕ) (n : ℕ) → n ≡ prefix_len is_ascii_digit text → IsTrue (list_all is_ascii_digit (take n text))
all_digits text n e = ap (λ k. list_all is_ascii_digit (take k text)) e ∙ all_prefix is_ascii_digit text

pub uuid_short : (text : List ℕ) → length text < 36 → uuid_of (take 36 text) ≡ None
uuid_short text lt =
    let whole : take 36 text ≡ text = take_all 36 text (omega arith) in
    let other : eqb (length text) 36 ≡ false = ne_eqb (length text) 36 (λ e. omega arith) in
    rw (whole, other) refl

pub uuid_found : (whole : ℕ) (text u rest : List ℕ) → uuid_of (take 36 text) ≡ Some u → rest ≡ drop 36 text → next_uuid whole text ≡ Found u rest
unfolding next_uuid
uuid_found whole text u rest h e = ap (λ o. elim o as (λ x. Scan (List ℕ)) [ Some v ↦ Found v (drop 36 text) | None ↦ Refused (BadUuid (place whole text)) ]) h ∙ ap (Found u) (sym e)

-- ---- the runs of a text, step by step

-- The rest of the text says what the whole says, and has runs for the steps that are left.
pub record ReadsOn (whole : ℕ) (before : Option (List ℕ)) (runs : Gtids) (left : List ℕ) (reading : Result Gtids TextFault) : Type 0 where
  pub steps : ℕ
  pub enough : length left ≤ steps
  pub reads : runs_in (suc steps) whole before runs left ≡ reading

pub reads_first : (whole : ℕ) (left : List ℕ) → ReadsOn whole None [] left (runs_in (suc (length left)) whole None [] left)
reads_first whole left = record { steps = length left; enough = omega arith; reads = refl }

pub run_refused : (whole : ℕ) (before : Option (List ℕ)) (runs : Gtids) (left : List ℕ) (reading : Result Gtids TextFault) (e : TextFault) → ReadsOn whole before runs left reading → next_run whole before left ≡ Refused e → reading ≡ Err e
unfolding runs_in
run_refused whole before runs left reading e h r = sym h.reads ∙ ap (from_run (runs_in h.steps whole) whole runs) r

run_found : (whole : ℕ) (before : Option (List ℕ)) (runs : Gtids) (left rest : List ℕ) (run : Run) (joint : Scan Joint) (reading : Result Gtids TextFault) → (h : ReadsOn whole before runs left reading) → next_run whole before left ≡ Found run rest
    → next_joint whole (after_blanks rest) ≡ joint → reading ≡ behind_run (runs_in h.steps whole) runs run joint
unfolding runs_in
run_found whole before runs left rest run joint reading h r j = sym h.reads ∙ ap (from_run (runs_in h.steps whole) whole runs) r ∙ ap (behind_run (runs_in h.steps whole) runs run) j

pub joint_refused : (whole : ℕ) (before : Option (List ℕ)) (runs : Gtids) (left rest : List ℕ) (run : Run) (e : TextFault) (reading : Result Gtids TextFault) → ReadsOn whole before runs left reading → next_run whole before left ≡ Found run rest
    → next_joint whole (after_blanks rest) ≡ Refused e → reading ≡ Err e
joint_refused whole before runs left rest run e reading h r j = run_found whole before runs left rest run (Refused e) reading h r j

pub reads_last : (whole : ℕ) (before : Option (List ℕ)) (runs : Gtids) (left rest behind : List ℕ) (run : Run) (reading : Result Gtids TextFault) → ReadsOn whole before runs left reading → next_run whole before left ≡ Found run rest
    → next_joint whole (after_blanks rest) ≡ Found End behind → reading ≡ Ok (with_run runs run)
reads_last whole before runs left rest behind run reading h r j = run_found whole before runs left rest run (Found End behind) reading h r j

pub reads_next : (whole : ℕ) (before : Option (List ℕ)) (runs : Gtids) (left rest behind : List ℕ) (run : Run) (joint : Joint) (reading : Result Gtids TextFault) → ReadsOn whole before runs left reading → next_run whole before left ≡ Found run rest
    → next_joint whole (after_blanks rest) ≡ Found joint behind → (joint ≡ End → ⊥) → length behind < length left → ReadsOn whole (source_behind joint run.source) (with_run runs run) behind reading
reads_next whole before runs left rest behind run joint reading h r j other fewer =
    let more : h.steps ≡ suc (h.steps - 1) = omega (arith, h.enough, fewer) in
    let on = run_found whole before runs left rest run (Found joint behind) reading h r j in
    record {
      steps = h.steps - 1;
      enough = omega (arith, h.enough, fewer);
      reads = ap (λ n. runs_in n whole (source_behind joint run.source) (with_run runs run) behind) (sym more) ∙ sym (on ∙ unended joint other);
    }
  where
    unended : (x : Joint) → (x ≡ End → ⊥) → behind_run (runs_in h.steps whole) runs run (Found x behind) ≡ runs_in h.steps whole (source_behind x run.source) (with_run runs run) behind
    unended End never = absurd (never refl)
    unended ColonJoint never = refl
    unended CommaJoint never = refl

pub fault_in : (reading : Result Gtids TextFault) (e : TextFault) → reading ≡ Err e → IsFaultIn reading e
fault_in reading Memory h = tt
fault_in reading (BadUuid at) h = h
fault_in reading (BadInterval at) h = h
fault_in reading (BadNumber at) h = h
fault_in reading (Trailing at) h = h

-- ---- a text's front

pub set_of_blanks : (text front : List ℕ) → front ≡ after_blanks text → front ≡ [] → set_of text ≡ Ok []
unfolding set_of
set_of_blanks text front e none = ap (λ xs. front_set xs (length text)) (sym e ∙ none)

pub set_of_runs : (text front : List ℕ) (whole : ℕ) → front ≡ after_blanks text → whole ≡ length text → (front ≡ [] → ⊥) → set_of text ≡ runs_in (suc (length front)) whole None [] front
unfolding set_of
set_of_runs text [] whole e w some = absurd (some refl)
set_of_runs text (b ∷ front) whole e w some = ap (λ xs. front_set xs (length text)) (sym e) ∙ ap (λ n. runs_in (suc (length (b ∷ front))) n None [] (b ∷ front)) (sym w)
