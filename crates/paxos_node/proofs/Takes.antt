-- Taking a slot, and forgetting.
use Rattle.std.proofs.Common.{◌≡◌, ℕ, ◌+◌, ◌≤◌, Bool, true, false, List, [], ◌∷◌, ◌++◌, Option, Some, None, refl, ap, ◌∙◌, arith}
use Rattle.std.specs.Prelude.{option_map, filter, map, min, nat_lt, ⊤}
use Rattle.std.proofs.lemmas.Bool.{le-ltb}
use Rattle.gr_ids.specs.declared.names.Inc.{Inc}
use Rattle.gr_ids.specs.Names.{inc_eq, has_inc}
use Rattle.slot_values.specs.declared.value.Value.{Value}
use Rattle.slot_values.specs.Log.{Turns, became, incs, last_in, forget_configs}
use Rattle.slot_values.specs.declared.member.Member.{Member}
use Rattle.slot_values.specs.Turns.{Taken, forgotten}
use Rattle.node_rules.specs.Names.{Kept}
use Rattle.node_rules.specs.Node.{Node}
use Rattle.node_rules.specs.Taking.{take_next}
use Rattle.node_rules.specs.Slots.{Entry}
use Rattle.node_rules.specs.Learner.{Learner, decided_at, forget_decided, is_decided, learn, next_entry}
use Rattle.node_rules.specs.Leader.{Leader, forget_proposals}
use Rattle.paxos_node.specs.Parts.{FitsLog, IsAfter, log_of}
use Rattle.paxos_node.proofs.Accepts.{found_slot}

-- ---- the next slot

pub entry_waits : (d : Learner) → d.next ≤ d.slot → next_entry d ≡ None
entry_waits d h = rw (le-ltb d.slot d.next h) refl

pub entry_none : (d : Learner) → ◌≡◌ {A = Option Value} None (option_map (λ e. e.value) (next_entry d)) → next_entry d ≡ None
entry_none d h = go (next_entry d) h
  where
    go : (o : Option Entry) → ◌≡◌ {A = Option Value} None (option_map (λ e. e.value) o) → o ≡ None
    go None h = refl
    go (Some e) h = absurd cc

pub entry_some : (d : Learner) (v : Value) → Some v ≡ option_map (λ e. e.value) (next_entry d) → next_entry d ≡ Some (record { slot = d.slot; value = v })
entry_some d v h = go (nat_lt d.slot d.next) refl
  where
    one : (o : Option Entry) → decided_at d d.slot ≡ o → Some v ≡ option_map (λ e. e.value) o → o ≡ Some (record { slot = d.slot; value = v })
    one None e h = absurd cc
    one (Some x) e h =
        let slot : x.slot ≡ d.slot = found_slot (λ y. y.slot) d.decided d.slot x e in
        let value : v ≡ x.value = cc in
        rw (← slot, value) refl

    go : (u : Bool) → nat_lt d.slot d.next ≡ u → next_entry d ≡ Some (record { slot = d.slot; value = v })
    go true p = rw p (one (decided_at d d.slot) refl (rw p at h))
    go false p = absurd (let no : ◌≡◌ {A = Option Value} (Some v) None = (rw p at h) in cc)

-- ---- last numbers

pub last_here : (ms fs : List Member) (i : Inc) → has_inc (incs ms) i ≡ true → last_in (ms ++ fs) i ≡ last_in ms i
last_here [] fs i h = absurd cc
last_here (m ∷ ms) fs i h = go (inc_eq m.inc i) refl (λ r. last_here ms fs i r)
  where
    go : (u : Bool) → inc_eq m.inc i ≡ u → (has_inc (incs ms) i ≡ true → last_in (ms ++ fs) i ≡ last_in ms i) → last_in ((m ∷ ms) ++ fs) i ≡ last_in (m ∷ ms) i
    go true p r = rw p refl
    go false p r = rw p (r (rw p at h))

pub last_gone : (ms : List Member) (i : Inc) → has_inc (incs ms) i ≡ false → last_in ms i ≡ 0
last_gone [] i h = refl
last_gone (m ∷ ms) i h = go (inc_eq m.inc i) refl (λ r. last_gone ms i r)
  where
    go : (u : Bool) → inc_eq m.inc i ≡ u → (has_inc (incs ms) i ≡ false → last_in ms i ≡ 0) → last_in (m ∷ ms) i ≡ 0
    go true p r = absurd (let no : true ≡ false = (rw p at h) in cc)
    go false p r = rw p (r (rw p at h))

-- ---- lists through a function

pub filter_of : {A B : Type 0} (f : A → B) (p : B → Bool) (xs : List A) → map f (filter (λ x. p (f x)) xs) ≡ filter p (map f xs)
filter_of f p [] = refl
filter_of f p (x ∷ xs) = go (p (f x)) refl (filter_of f p xs)
  where
    go : (u : Bool) → p (f x) ≡ u → map f (filter (λ x. p (f x)) xs) ≡ filter p (map f xs) → map f (filter (λ x. p (f x)) (x ∷ xs)) ≡ filter p (map f (x ∷ xs))
    go true q r = rw q (ap (λ l. f x ∷ l) r)
    go false q r = rw q r

pub put_last : {A B : Type 0} (f : A → B) (xs : List A) (x : A) → map f (xs ++ x ∷ []) ≡ map f xs ++ f x ∷ []
put_last f [] x = refl
put_last f (y ∷ ys) x = ap (λ l. f y ∷ l) (put_last f ys x)

-- ---- forgetting

abbrev pub NotPast : ℕ → Option Taken → Type 0
NotPast k None = ⊤
NotPast k (Some w) = k ≤ w.turns.slot + 1

pub not_past : (k : ℕ) (d : Learner) (w : Option Taken) → IsAfter d w → k ≤ d.slot → NotPast k w
not_past k d None a h = tt
not_past k d (Some w) a h = omega arith

pub log_forgotten : (k : ℕ) (w : Option Taken) → NotPast k w → log_of (option_map (forgotten k) w) ≡ option_map (forget_configs k) (log_of w)
log_forgotten k None h = refl
log_forgotten k (Some w) h = let least : min k (w.turns.slot + 1) ≡ k = omega arith in rw least refl

pub fits_forgotten : (k : ℕ) (d : Learner) (l : Option Leader) (w : Option Taken) → FitsLog d l w → k ≤ d.slot → FitsLog (forget_decided k d) (option_map (forget_proposals k) l) (option_map (forgotten k) w)
fits_forgotten k d l None f h = let none : l ≡ None = f.knows in record { kept = tt; after = tt; knows = rw none refl }
fits_forgotten k d l (Some w) f h =
    let kept : w.low ≤ w.turns.base + 1 = f.kept in
    let after : d.slot ≡ w.turns.slot + 1 = f.after in
    record { kept = omega arith; after = f.after; knows = tt }

-- ---- learning

pub learn_slot : (d : Learner) (t : ℕ) (v : Value) → (learn d t v).slot ≡ d.slot
learn_slot d t v = go (is_decided d t) refl
  where
    go : (u : Bool) → is_decided d t ≡ u → (learn d t v).slot ≡ d.slot
    go true p = rw p refl
    go false p = rw p refl

pub fits_learnt : (d : Learner) (t : ℕ) (v : Value) (l : Option Leader) (w : Option Taken) → FitsLog d l w → FitsLog (learn d t v) l w
fits_learnt d t v l None f = record { kept = f.kept; after = tt; knows = f.knows }
fits_learnt d t v l (Some w) f = record { kept = f.kept; after = learn_slot d t v ∙ f.after; knows = tt }

-- ---- what is handed out

pub took_is : (n : Node) (e : Entry) (k : Kept) → next_entry n.learner ≡ Some e → Some k ≡ option_map (λ w. became w.reading e.value) n.turns → (take_next n n.turns (next_entry n.learner)).took ≡ record { slot = e.slot; value = e.value; kept = k } ∷ []
took_is n e k h q = ap (λ (o : Option Entry). (take_next n n.turns o).took) h ∙ go n.turns q
  where
    go : (o : Option Turns) → Some k ≡ option_map (λ w. became w.reading e.value) o → (take_next n o (Some e)).took ≡ record { slot = e.slot; value = e.value; kept = k } ∷ []
    go None q = absurd cc
    go (Some w) q = let same : became w.reading e.value ≡ k = cc in ap (λ (j : Kept). record { slot = e.slot; value = e.value; kept = j } ∷ []) same
