-- Bytes that are put behind others, step by step.
use Rattle.std.proofs.Common.{◌≡◌, ℕ, ◌≤◌, List, ◌++◌, length, take, drop, refl, sym, ap, ◌∙◌, arith, length-append}
use Rattle.std.proofs.lemmas.List.{take_at, take_all, take-append-drop}
use Rattle.std.proofs.Common.{append_assoc, Result, Ok, Err, OnOk}
use Rattle.byte_forms.specs.Packs.{Keeps}

pub keeps_same : (old : List ℕ) → Keeps old old
keeps_same old = take_all (length old) old (omega arith)

pub keeps_append : (old more new : List ℕ) → new ≡ old ++ more → Keeps old new
keeps_append old more new e = ap (take (length old)) e ∙ take_at old more (length old) refl

-- what is kept is a front
kept : (old new : List ℕ) → Keeps old new → new ≡ old ++ drop (length old) new
kept old new h = sym (take-append-drop (length old) new) ∙ ap (λ xs. xs ++ drop (length old) new) h

pub keeps_trans : (a b c : List ℕ) → Keeps a b → Keeps b c → Keeps a c
keeps_trans a b c ab bc = keeps_append a (drop (length a) b ++ drop (length b) c) c (kept b c bc ∙ ap (λ xs. xs ++ drop (length b) c) (kept a b ab) ∙ append_assoc a (drop (length a) b) (drop (length b) c))

-- two puts, one behind the other
pub behind : (old mid new s t : List ℕ) → mid ≡ old ++ s → new ≡ mid ++ t → new ≡ old ++ (s ++ t)
behind old mid new s t p q = q ∙ ap (λ xs. xs ++ t) p ∙ append_assoc old s t

-- what follows where a call was answered Ok
pub on_ok : {A E : Type 0} {P Q : Type 0} (answer : Result A E) → OnOk answer P → (P → Q) → OnOk answer Q
on_ok (Ok x) h f = f h
on_ok (Err e) h f = tt
