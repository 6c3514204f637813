-- The proposals of a leader: a map by slot, seen as a list kept by slot.
use Rattle.std.proofs.Common.{◌≡◌, ℕ, Bool, true, false, List, [], ◌∷◌, Option, Some, None, ltb, eqb, refl, sym, ap, ◌∙◌}
use Rattle.std.specs.Prelude.{map, option_map, is_some}
use Rattle.std.specs.List.Sorted.{IsStrictlySortedBy}
use Rattle.std.specs.Ordering.{nat_cmp}
use Rattle.std.specs.declared.cmp.Ordering.TheVariants.{Less}
use Rattle.std.specs.Map.{lookup, keys_of, set_value}
use Rattle.std.specs.BTreeMap.{insert_entry, is_at}
use Rattle.std.proofs.lemmas.Bool.{ne_eqb, eqb-true, eqb-false, eq-eqb}
use Rattle.std.proofs.lemmas.Cmp.{nat_cmp_total}
use Rattle.std.proofs.lemmas.Map.{lookup-none}
use Rattle.std.proofs.lemmas.Map.Entries.{none_below_head}
use Rattle.std.proofs.lemmas.Map.Keys.{sorted_tail}
use Rattle.gr_ids.specs.declared.names.Inc.{Inc}
use Rattle.slot_values.specs.Log.{Turns}
use Rattle.node_rules.specs.Slots.{at_slot, put_slot, from_slot}
use Rattle.std.proofs.lemmas.Map.Steps.{set_value_same}
use Rattle.gr_ids.specs.declared.names.Ballot.{Ballot}
use Rattle.slot_values.specs.declared.value.Value.{Value}
use Rattle.node_rules.specs.Leader.{Leader, Promised, Proposal, accepted_by, has_majority}
use Rattle.paxos_votes.specs.Entries.{entries_from}
use Rattle.paxos_votes.proofs.SlotMaps.{put_is, at_is, has_is, from_is}
use Rattle.paxos_leader.specs.Parts.{proposal_of}
use Rattle.paxos_leader.specs.Counting.{counted, decides}
use Rattle.paxos_leader.specs.declared.leader.Proposed.{Proposed}

abbrev pub found : List (ℕ × Proposed) → ℕ → Option Proposed
found es t = lookup (is_at (nat_cmp t)) es

abbrev pub seen : List (ℕ × Proposed) → ℕ → Option Proposal
seen es t = at_slot (λ (p : Proposal). p.slot) (map proposal_of es) t

abbrev pub at_one : ℕ → Option Proposed → Option Proposal
at_one t o = option_map (λ v. proposal_of (t, v)) o

pub proposals_put : (es : List (ℕ × Proposed)) (k : ℕ) (v : Proposed) → map proposal_of (insert_entry nat_cmp es k v) ≡ put_slot (λ p. p.slot) (map proposal_of es) (proposal_of (k, v))
proposals_put es k v = put_is proposal_of (λ p. p.slot) (λ e. refl) es k v

pub proposal_is : (es : List (ℕ × Proposed)) (t : ℕ) → seen es t ≡ at_one t (found es t)
proposal_is es t = at_is proposal_of (λ p. p.slot) (λ e. refl) es t

pub has_proposal : (es : List (ℕ × Proposed)) (t : ℕ) → is_some (seen es t) ≡ is_some (found es t)
has_proposal es t = has_is proposal_of (λ p. p.slot) (λ e. refl) es t

pub proposals_from : (es : List (ℕ × Proposed)) (s : ℕ) → from_slot (λ p. p.slot) (map proposal_of es) s ≡ map proposal_of (entries_from s es)
proposals_from es s = from_is proposal_of (λ p. p.slot) (λ e. refl) es s

-- a value in place of the one of its slot
pub set_is : (es : List (ℕ × Proposed)) (t : ℕ) (v w : Proposed) → IsStrictlySortedBy nat_cmp (keys_of es) → found es t ≡ Some v → map proposal_of (set_value (is_at (nat_cmp t)) es w) ≡ put_slot (λ p. p.slot) (map proposal_of es) (proposal_of (t, w))
set_is [] t v w s h = absurd cc
set_is (e ∷ es) t v w s h = go (ltb t e.0) (eqb t e.0) refl refl (λ q. set_is es t v w (sorted_tail nat_cmp e.0 (keys_of es) s) (sym q ∙ h))
  where
    go : (a b : Bool) → ltb t e.0 ≡ a → eqb t e.0 ≡ b → (found (e ∷ es) t ≡ found es t → map proposal_of (set_value (is_at (nat_cmp t)) es w) ≡ put_slot (λ p. p.slot) (map proposal_of es) (proposal_of (t, w))) → map proposal_of (set_value (is_at (nat_cmp t)) (e ∷ es) w) ≡ put_slot (λ p. p.slot) (map proposal_of (e ∷ es)) (proposal_of (t, w))
    go true b p q r =
        let less : nat_cmp t e.0 ≡ Less = rw p refl in
        let none : found (e ∷ es) t ≡ None = lookup-none (is_at (nat_cmp t)) (e ∷ es) (none_below_head nat_cmp_total t e es s less) in
        absurd (let no : ◌≡◌ {A = Option Proposed} None (Some v) = sym none ∙ h in cc)
    go false true p q r = let same : t ≡ e.0 = eqb-true t e.0 q in rw (eq-eqb e.0 t (sym same), p, q) (ap (λ k. proposal_of (k, w) ∷ map proposal_of es) (sym same))
    go false false p q r =
        let other : (t ≡ e.0 → ⊥) = eqb-false t e.0 q in
        rw (ne_eqb e.0 t (λ k. other (sym k)), p, q) (ap (λ l. proposal_of e ∷ l) (r (rw (p, q) refl)))

-- a slot that is decided
pub decided_stays : (d : ℕ → Bool) (i : Inc) (l : Leader) (ps : List Proposal) (t : ℕ) → d t ≡ true → counted d i l (at_slot (λ p. p.slot) ps t) ≡ l
decided_stays d i l [] t h = refl
decided_stays d i l (p ∷ ps) t h = go (eqb p.slot t) refl (decided_stays d i l ps t h)
  where
    go : (u : Bool) → eqb p.slot t ≡ u → counted d i l (at_slot (λ p. p.slot) ps t) ≡ l → counted d i l (at_slot (λ p. p.slot) (p ∷ ps) t) ≡ l
    go true e r = let here : d p.slot ≡ true = ap d (eqb-true p.slot t e) ∙ h in rw (e, here) refl
    go false e r = rw e r

pub decided_never : (d : ℕ → Bool) (w : Option Turns) (i : Inc) (ps : List Proposal) (t : ℕ) → d t ≡ true → decides d w i (at_slot (λ p. p.slot) ps t) ≡ false
decided_never d w i [] t h = refl
decided_never d w i (p ∷ ps) t h = go (eqb p.slot t) refl (decided_never d w i ps t h)
  where
    go : (u : Bool) → eqb p.slot t ≡ u → decides d w i (at_slot (λ p. p.slot) ps t) ≡ false → decides d w i (at_slot (λ p. p.slot) (p ∷ ps) t) ≡ false
    go true e r = let here : d p.slot ≡ true = ap d (eqb-true p.slot t e) ∙ h in rw (e, here) refl
    go false e r = rw e r

abbrev pub whole : Ballot → List Promised → List (ℕ × Proposed) → List Value → Leader
whole b ps es os = record { ballot = b; promises = ps; proposals = map proposal_of es; offers = os }

abbrev pub with_one : List (ℕ × Proposed) → Proposal → List Proposal
with_one es p = put_slot (λ q. q.slot) (map proposal_of es) p

pub unproposed : (d : ℕ → Bool) (i : Inc) (l : Leader) (es : List (ℕ × Proposed)) (t : ℕ) → None ≡ found es t → counted d i l (seen es t) ≡ l
unproposed d i l es t h = rw (proposal_is es t ∙ ap (at_one t) (sym h)) refl

pub unproposed_never : (d : ℕ → Bool) (w : Option Turns) (i : Inc) (es : List (ℕ × Proposed)) (t : ℕ) → None ≡ found es t → decides d w i (seen es t) ≡ false
unproposed_never d w i es t h = rw (proposal_is es t ∙ ap (at_one t) (sym h)) refl

pub counts_one : (b : Ballot) (ps : List Promised) (es : List (ℕ × Proposed)) (os : List Value) (d : ℕ → Bool) (i : Inc) (t : ℕ) (v : Proposed) → d t ≡ false → Some v ≡ found es t → counted d i (whole b ps es os) (seen es t) ≡ record { ballot = b; promises = ps; proposals = with_one es (accepted_by (proposal_of (t, v)) i); offers = os }
counts_one b ps es os d i t v h e = rw (proposal_is es t ∙ ap (at_one t) (sym e), h) refl

pub decides_one : (d : ℕ → Bool) (w : Option Turns) (es : List (ℕ × Proposed)) (i : Inc) (t : ℕ) (v : Proposed) → d t ≡ false → Some v ≡ found es t → decides d w i (seen es t) ≡ has_majority w (accepted_by (proposal_of (t, v)) i)
decides_one d w es i t v h e = rw (proposal_is es t ∙ ap (at_one t) (sym e), h) refl

-- what was there, put there again
pub put_again : (es : List (ℕ × Proposed)) (t : ℕ) (v : Proposed) → IsStrictlySortedBy nat_cmp (keys_of es) → found es t ≡ Some v → with_one es (proposal_of (t, v)) ≡ map proposal_of es
put_again es t v s h = sym (set_is es t v v s h) ∙ ap (map proposal_of) (set_value_same (is_at (nat_cmp t)) es v h)
