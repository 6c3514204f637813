-- The learner and the leader, within the ranges.
use Rattle.std.proofs.Common.{◌≡◌, inl, inr, ℕ, zero, suc, ◌+◌, ◌^◌, ◌≤◌, Bool, true, false, cond, ◌||◌, ◌&&◌, Option, Some, None, List, [], ◌∷◌, ◌++◌, leb, eqb, refl, sym, ap, subst, ◌∙◌, arith, length}
use Rattle.std.proofs.lemmas.Bool.{cond_both, and_parts, leb-true, false≢true}
use Rattle.std.specs.Prelude.{is_some, fold}
use Rattle.gr_ids.specs.declared.names.Inc.{Inc}
use Rattle.slot_values.specs.Slots.{IsSlot, last_slot}
use Rattle.slot_values.specs.Spelling.{IsValue}
use Rattle.slot_values.specs.Log.{Turns, majority}
use Rattle.slot_values.specs.declared.value.Value.{Value}
use Rattle.slot_values.specs.declared.value.Vote.{Vote}
use Rattle.node_rules.specs.Lists.{In}
use Rattle.node_rules.specs.Slots.{Entry, entry_at, put_slot, first_empty}
use Rattle.node_rules.specs.Known.{config_by, config_here}
use Rattle.node_rules.specs.Learner.{Learner, is_decided, advanced, learn}
use Rattle.node_rules.specs.Leader.{Leader, Promised, Proposal, Choice, has_promise, keep_promise, refuses_offer, take_offer, proposal_at, free_slot, may_propose, reported_above, best, noop, first_offer, choice_at}
use Rattle.order_laws.proofs.Lists.{in_push, in_put, at_slot-in, at_slot-slot, best_real}
use Rattle.order_laws.proofs.Leads.{advanced_up}
use Rattle.paxos_ranges.specs.Ranges.{AreValues, LeadsInRange}

-- ---- the learner

pub record Learnt (d : Learner) : Type 0 where
  pub decided : (e : Entry) → In e d.decided → IsSlot e.slot × IsValue e.value
  pub next : d.next ≤ last_slot + 1

empty_below : (f : ℕ) (es : List Entry) (k : ℕ) → ((e : Entry) → In e es → IsSlot e.slot × IsValue e.value) → k ≤ last_slot + 1 → first_empty f es k ≤ last_slot + 1
empty_below zero es k r h = h
empty_below (suc f) es k r h = go (entry_at es k) refl (empty_below f es (k + 1) r)
  where
    go : (o : Option Entry) → entry_at es k ≡ o → (k + 1 ≤ last_slot + 1 → first_empty f es (k + 1) ≤ last_slot + 1) → first_empty (suc f) es k ≤ last_slot + 1
    go None e q = rw e h
    go (Some x) e q =
        let a : x.slot ≡ k = at_slot-slot (λ y. y.slot) es k x e in
        let b = (r x (at_slot-in (λ y. y.slot) es k x e)).0 in
        rw e (q (omega (arith, a, b.1)))

pub advances : (d : Learner) → Learnt d → Learnt (advanced d)
advances d k = record {
  decided = k.decided;
  next = cond_both (eqb d.next 0) 0 (first_empty (length d.decided) d.decided d.next) (λ z. z ≤ last_slot + 1) (λ e. omega arith) (λ e. empty_below (length d.decided) d.decided d.next k.decided k.next);
}

pub learns_value : (d : Learner) (t : ℕ) (v : Value) → IsSlot t → IsValue v → Learnt d → Learnt (learn d t v)
learns_value d t v s p k =
    let x : Entry = record { slot = t; value = v } in
    let e : Learner = record d { decided = put_slot (λ e. e.slot) d.decided x } in
    cond_both (is_decided d t) d (advanced e) (λ (z : Learner). Learnt z) (λ q. k)
    (λ q. advances e (record { decided = λ y h. elim (in_put (λ z. z.slot) d.decided x y h) [ inl z ↦ subst (λ w. IsSlot w.slot × IsValue w.value) z (s, p) | inr z ↦ k.decided y z ]; next = k.next }))

pub learnt_up : (d : Learner) (t : ℕ) (v : Value) → d.next ≤ (learn d t v).next
learnt_up d t v =
    let e : Learner = record d { decided = put_slot (λ e. e.slot) d.decided (record { slot = t; value = v }) } in
    cond_both (is_decided d t) d (advanced e) (λ (z : Learner). d.next ≤ z.next) (λ q. omega arith) (λ q. advanced_up e)

-- ---- the leader

pub keeps_promise : (l : Leader) (j : Inc) (xs : List Vote) → ((x : Vote) → In x xs → IsValue x.value) → LeadsInRange l → LeadsInRange (keep_promise l j xs)
keeps_promise l j xs p o =
    let new : Promised = record { inc = j; votes = xs } in
    cond_both (has_promise l.promises j) l (record l { promises = l.promises ++ new ∷ [] }) (λ (z : Leader). LeadsInRange z) (λ e. o)
    (λ e. record { ballot = o.ballot; reported = λ q h. elim (in_push q l.promises new h) [ inl z ↦ o.reported q z | inr z ↦ subst (λ y. (x : Vote) → In x y.votes → IsValue x.value) z p ]; proposals = o.proposals; offers = o.offers })

takes_offer : (d : ℕ → Bool) (last : Inc → ℕ) (l : Leader) (v : Value) → IsValue v → LeadsInRange l → LeadsInRange (take_offer d last l v)
takes_offer d last l v p o =
    cond_both (refuses_offer d last l v) l (record l { offers = l.offers ++ v ∷ [] }) (λ (z : Leader). LeadsInRange z) (λ e. o)
    (λ e. record { ballot = o.ballot; reported = o.reported; proposals = o.proposals; offers = λ x q. elim (in_push x l.offers v q) [ inl z ↦ o.offers x z | inr z ↦ subst (λ y. IsValue y) z p ] })

pub takes_offers : (d : ℕ → Bool) (last : Inc → ℕ) (vs : List Value) (l : Leader) → AreValues vs → LeadsInRange l → LeadsInRange (fold (take_offer d last) l vs)
takes_offers d last [] l p o = o
takes_offers d last (v ∷ vs) l p o = takes_offers d last vs (take_offer d last l v) (λ x h. p x (inr h)) (takes_offer d last l v (p v (inl refl)) o)

pub puts_proposal : (l : Leader) (q : Proposal) → IsSlot q.slot × IsValue q.value → LeadsInRange l → (p : Proposal) → In p (put_slot (λ x. x.slot) l.proposals q) → IsSlot p.slot × IsValue p.value
puts_proposal l q k o p h = elim (in_put (λ x. x.slot) l.proposals q p h) [ inl z ↦ subst (λ w. IsSlot w.slot × IsValue w.value) z k | inr z ↦ o.proposals p z ]

-- ---- what is proposed

pub free_up : (d : ℕ → Bool) (l : Leader) (n t u : ℕ) → free_slot d l n t ≡ Some u → t ≤ u
free_up d l zero t u h = absurd (cc h)
free_up d l (suc n) t u h = go (d t || is_some (proposal_at l t)) refl (free_up d l n (t + 1) u)
  where
    go : (b : Bool) → (d t || is_some (proposal_at l t)) ≡ b → (free_slot d l n (t + 1) ≡ Some u → t + 1 ≤ u) → t ≤ u
    go true e r = let k : free_slot d l n (t + 1) ≡ Some u = rw e at h in let a = r k in omega (arith, a)
    go false e r = let k : Some t ≡ Some u = rw e at h in let a : t ≡ u = cc in omega (arith, a)

pub record IsChoice (c : Choice) : Type 0 where
  pub slot : IsSlot c.slot
  pub value : IsValue c.value
  pub offers : AreValues c.offers

-- the slot's configuration is known, and the slot is none past the last one
chosen_slot : (w : Option Turns) (l : Leader) (t : ℕ) → may_propose w l t ≡ true → ((x : Turns) → w ≡ Some x → 1 ≤ t) → IsSlot t
chosen_slot w l t h low = (known w refl a.0, leb-true t last_slot a.1)
  where
    a : (is_some (config_by w t) ≡ true) × (leb t (2 ^ 42) ≡ true)
    a = and_parts (is_some (config_by w t)) (leb t (2 ^ 42)) (and_parts (is_some (config_by w t) && leb t (2 ^ 42)) (eqb l.ballot.round 1 || majority (config_here w t) (has_promise l.promises)) h).0

    known : (o : Option Turns) → w ≡ o → is_some (config_by w t) ≡ true → 1 ≤ t
    known None e q = absurd (false≢true (ap (λ x. is_some (config_by x t)) (sym e) ∙ q))
    known (Some x) e q = low x e

pub chooses : (above : ℕ → Bool) (w : Option Turns) (l : Leader) → LeadsInRange l → (o : Option ℕ) → ((t : ℕ) → o ≡ Some t → (x : Turns) → w ≡ Some x → 1 ≤ t) → (c : Choice) → choice_at above w l o ≡ Some c → IsChoice c
chooses above w l k None low c h = absurd (cc h)
chooses above w l k (Some t) low c h = go (may_propose w l t) refl (best (config_here w t) l.promises t) refl
  where
    chosen : (d : Choice) → Some d ≡ Some c → IsChoice d → IsChoice c
    chosen d e v = let q : d ≡ c = cc in subst IsChoice q v

    offer : IsSlot t → (os : List Value) → AreValues os → first_offer t os ≡ Some c → IsChoice c
    offer s [] p e = absurd (cc e)
    offer s (v ∷ vs) p e = chosen (record { slot = t; value = v; offers = vs }) e (record { slot = s; value = p v (inl refl); offers = λ x q. p x (inr q) })

    empty : IsValue (noop l.ballot.inc)
    empty = record { id = record { origin = k.ballot.inc; number_below = omega arith }; what = refl }

    fill : IsSlot t → (u : Bool) → cond u (Some (record { slot = t; value = noop l.ballot.inc; offers = l.offers })) (first_offer t l.offers) ≡ Some c → IsChoice c
    fill s true e = chosen (record { slot = t; value = noop l.ballot.inc; offers = l.offers }) e (record { slot = s; value = empty; offers = k.offers })
    fill s false e = offer s l.offers k.offers e

    go : (u : Bool) → may_propose w l t ≡ u → (b : Option Vote) → best (config_here w t) l.promises t ≡ b → IsChoice c
    go false m b e = let z : None ≡ Some c = rw m at h in absurd (cc z)
    go true m (Some x) e =
        let r = best_real (config_here w t) l.promises t x e in
        chosen (record { slot = t; value = x.value; offers = l.offers }) (rw (m, e) at h) (record { slot = chosen_slot w l t m (low t refl); value = k.reported r.0 r.1 x (at_slot-in (λ y. y.slot) (r.0).votes t x r.2); offers = k.offers })
    go true m None e = fill (chosen_slot w l t m (low t refl)) (reported_above l.promises t || above t) (rw (m, e) at h)
