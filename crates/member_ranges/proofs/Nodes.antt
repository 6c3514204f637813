-- Each row of a node but the Welcome leaves its log, and what it has promised and decided rises.
use Rattle.std.proofs.Common.{◌≡◌, ℕ, zero, suc, ◌-◌, ◌^◌, ◌≤◌, Bool, true, false, not, cond, ◌||◌, Option, Some, None, List, [], ◌∷◌, ◌++◌, ltb, eqb, refl, sym, subst, ◌∙◌, arith}
use Rattle.std.specs.Prelude.{is_some, fold}
use Rattle.std.proofs.lemmas.Bool.{cond_both, eqb-true, false≢true, ltb-false}
use Rattle.gr_ids.specs.Names.{ballot_eq, ballot_lt, has_inc}
use Rattle.gr_ids.specs.declared.names.Inc.{Inc}
use Rattle.gr_ids.specs.declared.names.Ballot.{Ballot}
use Rattle.slot_values.specs.Log.{Turns}
use Rattle.slot_values.specs.declared.value.Value.{Value}
use Rattle.slot_values.specs.declared.value.Vote.{Vote}
use Rattle.paxos_forms.specs.declared.message.Wire.{Wire}
use Rattle.paxos_forms.specs.declared.message.Wire.TheVariants.{Prepare, Promise, Accept, Accepted, Learn, Offer, Ask, Give, Alive, Gone}
use Rattle.paxos_forms.specs.declared.message.Wire.TheVariants.{Welcome as Greet}
use Rattle.node_rules.specs.declared.event.PaxosEvent.{PaxosEvent}
use Rattle.node_rules.specs.declared.event.PaxosEvent.TheVariants.{Heard, Own, Campaign, Tick, Propose}
use Rattle.node_rules.specs.Acceptor.{votes_from}
use Rattle.node_rules.specs.Known.{members_by, last_by}
use Rattle.node_rules.specs.Leader.{Leader, Proposal, Choice, proposal_at, keep_promise, take_offer, choice, proposing, accepted_by, count_accepted, has_majority}
use Rattle.node_rules.specs.Learner.{Learner, is_decided, learn, advanced}
use Rattle.node_rules.specs.Learning.{learns, hear_learn, settles, counts, lead_accepted, hear_accepted, tells, learns_from, hear_alive}
use Rattle.node_rules.specs.Node.{Node, Effect, quiet, sends, also, message, leads}
use Rattle.node_rules.specs.Proposing.{decided_above, proposes, propose_choice, lead_propose, propose_one, propose_times, propose_all, lead_promise, hear_promise, offers, own_value, lead_offer, hear_offer, campaign}
use Rattle.node_rules.specs.Slots.{put_slot}
use Rattle.node_rules.specs.Step.{hear, row}
use Rattle.node_rules.specs.Ticks.{tick}
use Rattle.node_rules.specs.Voting.{promises, votes, gone_to, hear_prepare, hear_accept}
use Rattle.order_laws.proofs.Leads.{learn_up}
use Rattle.member_ranges.specs.Hearing.{greets, is_welcome}
use Rattle.member_ranges.specs.Logs.{HasLog, IsLog}

-- ---- a node, and the same one later

pub record Onward (n m : Node) : Type 0 where
  pub me : m.me ≡ n.me
  pub horizon : m.horizon ≡ n.horizon
  pub turns : m.turns ≡ n.turns
  pub slot : m.learner.slot ≡ n.learner.slot
  pub next : n.learner.next ≤ m.learner.next
  pub round : n.acceptor.promise.round ≤ m.acceptor.promise.round

pub has_on : (n m : Node) (w : Turns) → Onward n m → HasLog n w → HasLog m w
has_on n m w o k = record {
  round = omega (arith, o.round, k.round);
  slot = o.slot ∙ k.slot;
  next = let a = o.slot in omega (arith, a, k.next, o.next);
  log = subst (λ h. IsLog h w) (sym o.horizon) k.log;
}

stays : (n : Node) → Onward n n
stays n = record { me = refl; horizon = refl; turns = refl; slot = refl; next = omega arith; round = omega arith }

then : (n m k : Node) → Onward n m → Onward m k → Onward n k
then n m k p q = record {
  me = q.me ∙ p.me;
  horizon = q.horizon ∙ p.horizon;
  turns = q.turns ∙ p.turns;
  slot = q.slot ∙ p.slot;
  next = omega (arith, p.next, q.next);
  round = omega (arith, p.round, q.round);
}

on_if : (n : Node) (b : Bool) (x y : Effect) → (b ≡ true → Onward n x.node) → (b ≡ false → Onward n y.node) → Onward n (cond b x y).node
on_if n b x y k l = cond_both b x y (λ e. Onward n e.node) k l

-- ---- parts of a node put anew

on_leads : (n : Node) (l : Leader) → Onward n (leads n l)
on_leads n l = record { me = refl; horizon = refl; turns = refl; slot = refl; next = omega arith; round = omega arith }

on_votes : (n : Node) (x : Vote) → Onward n (votes n x)
on_votes n x = record { me = refl; horizon = refl; turns = refl; slot = refl; next = omega arith; round = omega arith }

not_below : (a b : Ballot) → ballot_lt b a ≡ false → a.round ≤ b.round
not_below a b h = go (eqb b.round a.round) refl
  where
    go : (u : Bool) → eqb b.round a.round ≡ u → a.round ≤ b.round
    go true e = let q : b.round ≡ a.round = eqb-true b.round a.round e in omega (arith, q)
    go false e = let q : ltb b.round a.round ≡ false = rw e at h in ltb-false b.round a.round q

on_promises : (n : Node) (b : Ballot) → ballot_lt b n.acceptor.promise ≡ false → Onward n (promises n b)
on_promises n b h = record { me = refl; horizon = refl; turns = refl; slot = refl; next = omega arith; round = not_below n.acceptor.promise b h }

learn_slot : (d : Learner) (t : ℕ) (v : Value) → (learn d t v).slot ≡ d.slot
learn_slot d t v = cond_both (is_decided d t) d (advanced (record d { decided = put_slot (λ e. e.slot) d.decided (record { slot = t; value = v }) })) (λ (e : Learner). e.slot ≡ d.slot) (λ e. refl) (λ e. refl)

on_learns : (n : Node) (t : ℕ) (v : Value) → Onward n (learns n t v)
on_learns n t v = record { me = refl; horizon = refl; turns = refl; slot = learn_slot n.learner t v; next = learn_up n.learner t v; round = omega arith }

-- ---- Prepare, Accept, Learn, Accepted

on_prepare : (j : Inc) (b : Ballot) (s : ℕ) (n : Node) → Onward n (hear_prepare j b s n).node
unfolding hear_prepare
on_prepare j b s n = on_if n (ltb s n.acceptor.low) (sends n (gone_to n j)) _ (λ e. stays n)
    (λ e. on_if n (ballot_lt b n.acceptor.promise) (quiet n) (sends (promises n b) (message n j (Promise b s (votes_from n.acceptor s)) ∷ [])) (λ f. stays n) (λ f. on_promises n b f))

on_accept : (j : Inc) (b : Ballot) (t : ℕ) (v : Value) (n : Node) → Onward n (hear_accept j b t v n).node
unfolding hear_accept
on_accept j b t v n =
    let x : Vote = record { slot = t; ballot = b; value = v } in
    on_if n (ltb t n.acceptor.low) _ _ (λ e. stays n)
    (λ e. on_if n (ballot_lt b n.acceptor.promise) _ _ (λ f. stays n) (λ f. then n (promises n b) (votes (promises n b) x) (on_promises n b f) (on_votes (promises n b) x)))

on_accepted : (j : Inc) (b : Ballot) (t : ℕ) (n : Node) → Onward n (hear_accepted j b t n).node
unfolding hear_accepted
on_accepted j b t n = go n.leader
  where
    found : (l : Leader) (o : Option Proposal) → Onward n (counts j n l o).node
    found l None = stays n
    found l (Some p) =
        let m : Node = leads n (count_accepted l (accepted_by p j)) in
        on_if n (is_decided n.learner p.slot) (quiet n) (cond (has_majority n.turns (accepted_by p j)) (settles m p.slot p.value) (quiet m)) (λ e. stays n)
        (λ e. on_if n (has_majority n.turns (accepted_by p j)) (settles m p.slot p.value) (quiet m) (λ f. then n m (learns m p.slot p.value) (on_leads n (count_accepted l (accepted_by p j))) (on_learns m p.slot p.value)) (λ f. on_leads n (count_accepted l (accepted_by p j))))

    go : (o : Option Leader) → Onward n (lead_accepted j b t n o).node
    go None = stays n
    go (Some l) = on_if n (ballot_eq l.ballot b) (counts j n l (proposal_at l t)) (quiet n) (λ e. found l (proposal_at l t)) (λ e. stays n)

-- ---- proposals and offers

on_proposes : (n : Node) (l : Leader) (c : Choice) → Onward n (proposes n l c).node
on_proposes n l c =
    let x : Vote = record { slot = c.slot; ballot = l.ballot; value = c.value } in
    let m : Node = leads (votes n x) (proposing l c) in
    then n m (hear_accepted n.me l.ballot c.slot m).node (then n (votes n x) m (on_votes n x) (on_leads (votes n x) (proposing l c))) (on_accepted n.me l.ballot c.slot m)

on_propose_one : (n : Node) → Onward n (propose_one n).node
unfolding propose_one
on_propose_one n = go n.leader
  where
    chosen : (l : Leader) (o : Option Choice) → Onward n (propose_choice n l o).node
    chosen l None = stays n
    chosen l (Some c) = on_proposes n l c

    go : (o : Option Leader) → Onward n (lead_propose n o).node
    go None = stays n
    go (Some l) = chosen l (choice (is_decided n.learner) (decided_above n.learner) n.turns l n.horizon n.learner.next)

on_times : (c : ℕ) (n : Node) → Onward n (propose_times c n).node
on_times zero n = stays n
on_times (suc c) n = then n (propose_one n).node (propose_times c (propose_one n).node).node (on_propose_one n) (on_times c (propose_one n).node)

on_led : (n : Node) (l : Leader) → Onward n (also (quiet (leads n l)) propose_all).node
on_led n l = then n (leads n l) (propose_all (leads n l)).node (on_leads n l) (on_times n.horizon (leads n l))

on_promise : (j : Inc) (b : Ballot) (xs : List Vote) (n : Node) → Onward n (hear_promise j b xs n).node
unfolding hear_promise
on_promise j b xs n = go n.leader
  where
    go : (o : Option Leader) → Onward n (lead_promise j b xs n o).node
    go None = stays n
    go (Some l) = on_if n (ballot_eq l.ballot b) (also (quiet (leads n (keep_promise l j xs))) propose_all) (quiet n) (λ e. on_led n (keep_promise l j xs)) (λ e. stays n)

on_offers : (vs : List Value) (n : Node) (o : Option Leader) → Onward n (offers vs n o).node
on_offers vs n None = stays n
on_offers vs n (Some l) = on_led n (fold (take_offer (is_decided n.learner) (last_by n.turns)) l vs)

on_own : (v : Value) (n : Node) → Onward n (own_value v n).node
unfolding own_value
on_own v n =
    let m : Node = record n { own = n.own ++ v ∷ [] } in
    then n m (offers (v ∷ []) m n.leader).node (record { me = refl; horizon = refl; turns = refl; slot = refl; next = omega arith; round = omega arith }) (on_offers (v ∷ []) m n.leader)

on_offer : (v : Value) (n : Node) → Onward n (hear_offer v n).node
unfolding hear_offer
on_offer v n = on_if n (eqb v.id.number 0) (quiet n) (lead_offer v n n.leader) (λ e. stays n) (λ e. go n.leader)
  where
    go : (o : Option Leader) → Onward n (lead_offer v n o).node
    go None = stays n
    go (Some l) = on_offers (v ∷ []) n (Some l)

-- ---- the campaign, Alive and the tick

on_campaign : (n : Node) → Onward n (campaign n).node
unfolding campaign
on_campaign n = on_if n (eqb n.acceptor.promise.round (2 ^ 32 - 1) || not (is_some n.turns)) (quiet n) _ (λ e. stays n)
    (λ e. record { me = refl; horizon = refl; turns = refl; slot = refl; next = omega arith; round = omega arith })

on_alive : (j : Inc) (c : ℕ) (n : Node) → Onward n (hear_alive j c n).node
unfolding hear_alive
on_alive j c n = on_if n (has_inc (members_by n.turns) j) (sends (record n { told = tells n.told j c }) (learns_from n j c)) (sends n (gone_to n j))
    (λ e. record { me = refl; horizon = refl; turns = refl; slot = refl; next = omega arith; round = omega arith }) (λ e. stays n)

on_tick : (n : Node) → Onward n (tick n).node
unfolding tick
on_tick n = on_offers n.own n n.leader

-- ---- a row

on_hear : (j : Inc) (x : Wire) (n : Node) → greets x ≡ false → Onward n (hear j x n).node
unfolding hear hear_learn
on_hear j (Prepare b s) n h = on_prepare j b s n
on_hear j (Promise b s xs) n h = on_promise j b xs n
on_hear j (Accept b t v) n h = on_accept j b t v n
on_hear j (Accepted b t) n h = on_accepted j b t n
on_hear j (Learn t v) n h = on_learns n t v
on_hear j (Offer v) n h = on_offer v n
on_hear j (Greet x) n h = absurd (false≢true (sym h))
on_hear j (Ask x) n h = stays n
on_hear j (Give x) n h = stays n
on_hear j (Alive c) n h = on_alive j c n
on_hear j Gone n h = stays n

pub on_row : (e : PaxosEvent) (n : Node) → is_welcome e ≡ false → Onward n (row e n).node
on_row (Heard m) n h = on_hear m.from m.wire n h
on_row (Own v) n h = on_own v n
on_row Campaign n h = on_campaign n
on_row Tick n h = on_tick n
on_row Propose n h = on_times n.horizon n
