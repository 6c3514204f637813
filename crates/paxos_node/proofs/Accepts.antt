-- An acceptance, step by step.
use Rattle.std.proofs.Common.{◌≡◌, ℕ, Bool, true, false, List, [], ◌∷◌, Option, Some, None, eqb, refl, sym, ap, ◌∙◌}
use Rattle.std.specs.Prelude.{option_map, nat_lt}
use Rattle.std.proofs.lemmas.Bool.{eqb-true, eq-eqb}
use Rattle.gr_ids.specs.declared.names.Inc.{Inc}
use Rattle.gr_ids.specs.declared.names.Ballot.{Ballot}
use Rattle.gr_ids.specs.Names.{ballot_eq}
use Rattle.slot_values.specs.declared.value.Value.{Value}
use Rattle.slot_values.specs.declared.value.Vote.{Vote}
use Rattle.node_rules.specs.Slots.{at_slot, put_slot}
use Rattle.node_rules.specs.Learner.{is_decided}
use Rattle.node_rules.specs.Learning.{counts, hear_accepted, lead_accepted, settles}
use Rattle.node_rules.specs.Leader.{Leader, Proposal, accepted_by, count_accepted, has_majority, proposal_at}
use Rattle.node_rules.specs.Node.{Node, quiet}
use Rattle.paxos_leader.specs.Counting.{counted, decides}
use Rattle.paxos_node.specs.Leading.{counting, leads_at, own_vote, settling}
use Rattle.paxos_node.specs.Left.{settled}

-- what was put for a slot is found there
pub put_found : {A : Type 0} (slot : A → ℕ) (xs : List A) (x : A) → at_slot slot (put_slot slot xs x) (slot x) ≡ Some x
put_found slot [] x = rw (eq-eqb (slot x) (slot x) refl) refl
put_found slot (y ∷ ys) x = go (eqb (slot y) (slot x)) (nat_lt (slot x) (slot y)) refl refl (put_found slot ys x)
  where
    go : (a b : Bool) → eqb (slot y) (slot x) ≡ a → nat_lt (slot x) (slot y) ≡ b → at_slot slot (put_slot slot ys x) (slot x) ≡ Some x → at_slot slot (put_slot slot (y ∷ ys) x) (slot x) ≡ Some x
    go true b p q r = rw (p, eq-eqb (slot x) (slot x) refl) refl
    go false true p q r = rw (p, q, eq-eqb (slot x) (slot x) refl) refl
    go false false p q r = rw (p, q, p) r

-- the element of a slot has that slot
pub found_slot : {A : Type 0} (slot : A → ℕ) (xs : List A) (t : ℕ) (x : A) → at_slot slot xs t ≡ Some x → slot x ≡ t
found_slot slot [] t x h = absurd cc
found_slot slot (y ∷ ys) t x h = go (eqb (slot y) t) refl (λ r. found_slot slot ys t x r)
  where
    go : (a : Bool) → eqb (slot y) t ≡ a → (at_slot slot ys t ≡ Some x → slot x ≡ t) → slot x ≡ t
    go true p r = let same : ◌≡◌ {A = Option _} (Some y) (Some x) = (rw p at h) in let e : y ≡ x = cc in ap slot (sym e) ∙ eqb-true (slot y) t p
    go false p r = r (rw p at h)

abbrev pub counts_in : Inc → ℕ → Node → Node
counts_in i t n = record n { leader = counting n.learner i t n.leader }

abbrev pub vote_value : ℕ → Option Leader → Option Value
vote_value t l = option_map (λ x. x.value) (own_vote t l)

pub accepted_other : (i : Inc) (b : Ballot) (t : ℕ) (n : Node) → leads_at b n.leader ≡ false → hear_accepted i b t n ≡ quiet n
unfolding hear_accepted
accepted_other i b t n h = go n.leader refl
  where
    go : (l : Option Leader) → n.leader ≡ l → hear_accepted i b t n ≡ quiet n
    go None e = rw e refl
    go (Some l) e = let no : ballot_eq l.ballot b ≡ false = ap (leads_at b) (sym e) ∙ h in rw (e, no) refl

-- a leader that stays as it was
pub same_leader : (n : Node) (l : Option Leader) → n.leader ≡ l → record n { leader = l } ≡ n
same_leader n l e = rw (← e) refl

-- it counts, and decides nothing
pub accepted_waits : (i : Inc) (b : Ballot) (t : ℕ) (n : Node) → leads_at b n.leader ≡ true → settling n.learner n.turns i t n.leader ≡ false → hear_accepted i b t n ≡ quiet (counts_in i t n)
unfolding hear_accepted
accepted_waits i b t n = start n.leader refl
  where
    one : (l : Leader) (o : Option Proposal) → n.leader ≡ Some l → decides (is_decided n.learner) n.turns i o ≡ false → counts i n l o ≡ quiet (record n { leader = Some (counted (is_decided n.learner) i l o) })
    one l None e h = ap quiet (sym (same_leader n (Some l) e))
    one l (Some p) e h = go (is_decided n.learner p.slot) (has_majority n.turns (accepted_by p i)) refl refl
      where
        go : (u w : Bool) → is_decided n.learner p.slot ≡ u → has_majority n.turns (accepted_by p i) ≡ w → counts i n l (Some p) ≡ quiet (record n { leader = Some (counted (is_decided n.learner) i l (Some p)) })
        go true w a b = rw a (ap quiet (sym (same_leader n (Some l) e)))
        go false false a b = rw (a, b) refl
        go false true a b = absurd (let no : true ≡ false = (rw (a, b) at h) in cc)

    start : (l : Option Leader) → n.leader ≡ l → leads_at b n.leader ≡ true → settling n.learner n.turns i t n.leader ≡ false → hear_accepted i b t n ≡ quiet (counts_in i t n)
    start None e q h = absurd (let no : false ≡ true = (rw e at q) in cc)
    start (Some l) e q h =
        let here : ballot_eq l.ballot b ≡ true = (rw e at q) in
        let waits : decides (is_decided n.learner) n.turns i (proposal_at l t) ≡ false = (rw e at h) in
        let first : lead_accepted i b t n (Some l) ≡ counts i n l (proposal_at l t) = rw here refl in
        ap (lead_accepted i b t n) e ∙ first ∙ one l (proposal_at l t) e waits ∙ ap (λ (o : Option Leader). quiet (record n { leader = counting n.learner i t o })) (sym e)

abbrev after : Inc → Node → Leader → Option Proposal → Option Leader
after i n l o = Some (counted (is_decided n.learner) i l o)

-- it counts, and decides the slot with the value proposed
pub accepted_settles : (i : Inc) (b : Ballot) (t : ℕ) (n : Node) → leads_at b n.leader ≡ true → settling n.learner n.turns i t n.leader ≡ true → hear_accepted i b t n ≡ settled t (counts_in i t n) (vote_value t (counting n.learner i t n.leader))
unfolding hear_accepted
accepted_settles i b t n = start n.leader refl
  where
    one : (l : Leader) (o : Option Proposal) → proposal_at l t ≡ o → decides (is_decided n.learner) n.turns i o ≡ true → counts i n l o ≡ settled t (record n { leader = after i n l o }) (vote_value t (after i n l o))
    one l None e h = absurd cc
    one l (Some p) e h = go (is_decided n.learner p.slot) (has_majority n.turns (accepted_by p i)) refl refl
      where
        go : (u w : Bool) → is_decided n.learner p.slot ≡ u → has_majority n.turns (accepted_by p i) ≡ w → counts i n l (Some p) ≡ settled t (record n { leader = after i n l (Some p) }) (vote_value t (after i n l (Some p)))
        go true w a b = absurd (let no : false ≡ true = (rw a at h) in cc)
        go false false a b = absurd (let no : false ≡ true = (rw (a, b) at h) in cc)
        go false true a b =
            let same : p.slot ≡ t = found_slot (λ x. x.slot) l.proposals t p e in
            let found : proposal_at (count_accepted l (accepted_by p i)) t ≡ Some (accepted_by p i) = ap (λ (s : ℕ). at_slot (λ (x : Proposal). x.slot) (put_slot (λ (x : Proposal). x.slot) l.proposals (accepted_by p i)) s) (sym same) ∙ put_found (λ x. x.slot) l.proposals (accepted_by p i) in
            let led : after i n l (Some p) ≡ Some (count_accepted l (accepted_by p i)) = rw a refl in
            let value : vote_value t (Some (count_accepted l (accepted_by p i))) ≡ Some p.value = rw found refl in
            let first : counts i n l (Some p) ≡ settles (record n { leader = Some (count_accepted l (accepted_by p i)) }) p.slot p.value = rw (a, b) refl in
            first
            ∙ ap (λ (s : ℕ). settles (record n { leader = Some (count_accepted l (accepted_by p i)) }) s p.value) same
            ∙ ap (settled t (record n { leader = Some (count_accepted l (accepted_by p i)) })) (sym value)
            ∙ ap (λ (o : Option Leader). settled t (record n { leader = o }) (vote_value t o)) (sym led)

    start : (l : Option Leader) → n.leader ≡ l → leads_at b n.leader ≡ true → settling n.learner n.turns i t n.leader ≡ true → hear_accepted i b t n ≡ settled t (counts_in i t n) (vote_value t (counting n.learner i t n.leader))
    start None e q h = absurd (let no : false ≡ true = (rw e at q) in cc)
    start (Some l) e q h =
        let here : ballot_eq l.ballot b ≡ true = (rw e at q) in
        let yes : decides (is_decided n.learner) n.turns i (proposal_at l t) ≡ true = (rw e at h) in
        let first : lead_accepted i b t n (Some l) ≡ counts i n l (proposal_at l t) = rw here refl in
        ap (lead_accepted i b t n) e ∙ first ∙ one l (proposal_at l t) refl yes ∙ ap (λ (o : Option Leader). settled t (record n { leader = counting n.learner i t o }) (vote_value t (counting n.learner i t o))) (sym e)

-- the same, from what was counted and what was found
pub accepted_is : (i : Inc) (b : Ballot) (t : ℕ) (n : Node) (l : Option Leader) (v : Option Vote) → leads_at b n.leader ≡ true → settling n.learner n.turns i t n.leader ≡ true → l ≡ counting n.learner i t n.leader → v ≡ own_vote t l → hear_accepted i b t n ≡ settled t (record n { leader = l }) (option_map (λ x. x.value) v)
accepted_is i b t n l v q h c f = rw (f, c) (accepted_settles i b t n q h)

pub accepted_counts : (i : Inc) (b : Ballot) (t : ℕ) (n : Node) (l : Option Leader) → leads_at b n.leader ≡ true → settling n.learner n.turns i t n.leader ≡ false → l ≡ counting n.learner i t n.leader → hear_accepted i b t n ≡ quiet (record n { leader = l })
accepted_counts i b t n l q h c = rw c (accepted_waits i b t n q h)
