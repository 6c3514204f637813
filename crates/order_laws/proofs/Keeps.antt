-- The rows that hand out no slot: all but the taking of one and the Welcome.
use Rattle.std.proofs.Common.{◌≡◌, ℕ, zero, suc, ◌-◌, ◌^◌, Bool, not, cond, ◌||◌, Option, Some, None, List, [], ◌∷◌, ◌++◌, ltb, eqb, refl, ap, ◌∙◌}
use Rattle.std.specs.Prelude.{is_some, fold, option_map}
use Rattle.std.proofs.lemmas.Bool.{cond_both}
use Rattle.gr_ids.specs.Names.{ballot_eq, ballot_lt, has_inc}
use Rattle.node_rules.specs.Acceptor.{forget_votes}
use Rattle.node_rules.specs.Known.{members_by, config_here, last_by}
use Rattle.node_rules.specs.Leader.{Leader, Proposal, Choice, proposal_at, keep_promise, take_offer, choice, proposing, accepted_by, count_accepted, has_majority, forget_proposals}
use Rattle.node_rules.specs.Learner.{Learner, is_decided, advanced, learn, forget_decided}
use Rattle.node_rules.specs.Learning.{hear_learn, settles, counts, lead_accepted, hear_accepted, hear_alive}
use Rattle.node_rules.specs.Node.{Node, Effect, quiet, sends, also, leads, to_others}
use Rattle.node_rules.specs.Proposing.{decided_above, proposes, propose_choice, lead_propose, propose_one, propose_times, propose_all, lead_promise, hear_promise, offers, own_value, lead_offer, hear_offer, campaign}
use Rattle.node_rules.specs.Slots.{put_slot}
use Rattle.node_rules.specs.Taking.{least_told, forget, forgets}
use Rattle.node_rules.specs.Ticks.{lead_tick, tick}
use Rattle.node_rules.specs.Voting.{votes, hear_prepare, hear_accept}
use Rattle.order_laws.specs.Names.{Inc, Ballot, Value, Vote, Accept, Alive}
use Rattle.slot_values.specs.Log.{forget_configs}

-- the next slot to be handed out stays, and none was taken
pub record Keeps (n : Node) (e : Effect) : Type 0 where
  pub slot : e.node.learner.slot ≡ n.learner.slot
  pub took : e.took ≡ []

keeps_also : (n : Node) (e : Effect) (f : Node → Effect) → Keeps n e → Keeps e.node (f e.node) → Keeps n (also e f)
keeps_also n e f k l = record { slot = l.slot ∙ k.slot; took = ap (λ x. x ++ (f e.node).took) k.took ∙ l.took }

keeps_if : (n : Node) (b : Bool) (x y : Effect) → Keeps n x → Keeps n y → Keeps n (cond b x y)
keeps_if n b x y k l = cond_both b x y (λ e. Keeps n e) (λ h. k) (λ h. l)

keeps_quiet : (n : Node) → Keeps n (quiet n)
keeps_quiet n = record { slot = refl; took = refl }

pub keeps_prepare : (j : Inc) (b : Ballot) (s : ℕ) (n : Node) → Keeps n (hear_prepare j b s n)
unfolding hear_prepare
keeps_prepare j b s n = keeps_if n (ltb s n.acceptor.low) _ _ (record { slot = refl; took = refl }) (keeps_if n (ballot_lt b n.acceptor.promise) _ _ (record { slot = refl; took = refl }) (record { slot = refl; took = refl }))

pub keeps_accept : (j : Inc) (b : Ballot) (t : ℕ) (v : Value) (n : Node) → Keeps n (hear_accept j b t v n)
unfolding hear_accept
keeps_accept j b t v n = keeps_if n (ltb t n.acceptor.low) _ _ (record { slot = refl; took = refl }) (keeps_if n (ballot_lt b n.acceptor.promise) _ _ (record { slot = refl; took = refl }) (record { slot = refl; took = refl }))

learn_slot : (d : Learner) (t : ℕ) (v : Value) → (learn d t v).slot ≡ d.slot
learn_slot d t v = cond_both (is_decided d t) d (advanced (record d { decided = put_slot (λ e. e.slot) d.decided (record { slot = t; value = v }) })) (λ (e : Learner). e.slot ≡ d.slot) (λ e. refl) (λ e. refl)

pub keeps_learn : (t : ℕ) (v : Value) (n : Node) → Keeps n (hear_learn t v n)
unfolding hear_learn
keeps_learn t v n = record { slot = learn_slot n.learner t v; took = refl }

pub keeps_accepted : (j : Inc) (b : Ballot) (t : ℕ) (n : Node) → Keeps n (hear_accepted j b t n)
unfolding hear_accepted
keeps_accepted j b t n = go n.leader
  where
    find : (l : Leader) (o : Option Proposal) → Keeps n (counts j n l o)
    find l None = keeps_quiet n
    find l (Some p) =
        let m : Node = leads n (count_accepted l (accepted_by p j)) in
        keeps_if n (is_decided n.learner p.slot) (quiet n) (cond (has_majority n.turns (accepted_by p j)) (settles m p.slot p.value) (quiet m)) (keeps_quiet n)
        (keeps_if n (has_majority n.turns (accepted_by p j)) (settles m p.slot p.value) (quiet m) (record { slot = learn_slot n.learner p.slot p.value; took = refl }) (record { slot = refl; took = refl }))

    go : (o : Option Leader) → Keeps n (lead_accepted j b t n o)
    go None = keeps_quiet n
    go (Some l) = keeps_if n (ballot_eq l.ballot b) _ _ (find l (proposal_at l t)) (keeps_quiet n)

keeps_proposes : (n : Node) (l : Leader) (c : Choice) → Keeps n (proposes n l c)
keeps_proposes n l c =
    let x : Vote = record { slot = c.slot; ballot = l.ballot; value = c.value } in
    let m : Node = leads (votes n x) (proposing l c) in
    let e : Effect = record { node = m; sent = to_others n (config_here n.turns c.slot) (Accept l.ballot c.slot c.value); cast = x ∷ []; took = [] } in
    keeps_also n e (hear_accepted n.me l.ballot c.slot) (record { slot = refl; took = refl }) (keeps_accepted n.me l.ballot c.slot m)

keeps_propose_one : (n : Node) → Keeps n (propose_one n)
unfolding propose_one
keeps_propose_one n = go n.leader
  where
    chosen : (l : Leader) (o : Option Choice) → Keeps n (propose_choice n l o)
    chosen l None = keeps_quiet n
    chosen l (Some c) = keeps_proposes n l c

    go : (o : Option Leader) → Keeps n (lead_propose n o)
    go None = keeps_quiet n
    go (Some l) = chosen l (choice (is_decided n.learner) (decided_above n.learner) n.turns l n.horizon n.learner.next)

keeps_times : (k : ℕ) (n : Node) → Keeps n (propose_times k n)
keeps_times zero n = keeps_quiet n
keeps_times (suc k) n = keeps_also n (propose_one n) (propose_times k) (keeps_propose_one n) (keeps_times k (propose_one n).node)

pub keeps_all : (n : Node) → Keeps n (propose_all n)
keeps_all n = keeps_times n.horizon n

-- a new state of the leader, and then proposals
keeps_leads : (n : Node) (l : Leader) → Keeps n (also (quiet (leads n l)) propose_all)
keeps_leads n l = keeps_also n (quiet (leads n l)) propose_all (record { slot = refl; took = refl }) (keeps_all (leads n l))

pub keeps_promise : (j : Inc) (b : Ballot) (xs : List Vote) (n : Node) → Keeps n (hear_promise j b xs n)
unfolding hear_promise
keeps_promise j b xs n = go n.leader
  where
    go : (o : Option Leader) → Keeps n (lead_promise j b xs n o)
    go None = keeps_quiet n
    go (Some l) = keeps_if n (ballot_eq l.ballot b) _ _ (keeps_leads n (keep_promise l j xs)) (keeps_quiet n)

keeps_offers : (vs : List Value) (n : Node) (o : Option Leader) → Keeps n (offers vs n o)
keeps_offers vs n None = record { slot = refl; took = refl }
keeps_offers vs n (Some l) = keeps_leads n (fold (take_offer (is_decided n.learner) (last_by n.turns)) l vs)

pub keeps_own : (v : Value) (n : Node) → Keeps n (own_value v n)
unfolding own_value
keeps_own v n = let k = keeps_offers (v ∷ []) (record n { own = n.own ++ v ∷ [] }) n.leader in record { slot = k.slot; took = k.took }

pub keeps_offer : (v : Value) (n : Node) → Keeps n (hear_offer v n)
unfolding hear_offer
keeps_offer v n = keeps_if n (eqb v.id.number 0) _ _ (keeps_quiet n) (go n.leader)
  where
    go : (o : Option Leader) → Keeps n (lead_offer v n o)
    go None = keeps_quiet n
    go (Some l) = keeps_leads n (fold (take_offer (is_decided n.learner) (last_by n.turns)) l (v ∷ []))

pub keeps_campaign : (n : Node) → Keeps n (campaign n)
unfolding campaign
keeps_campaign n = keeps_if n (eqb n.acceptor.promise.round (2 ^ 32 - 1) || not (is_some n.turns)) _ _ (keeps_quiet n) (record { slot = refl; took = refl })

pub keeps_alive : (j : Inc) (k : ℕ) (n : Node) → Keeps n (hear_alive j k n)
unfolding hear_alive
keeps_alive j k n = keeps_if n (has_inc (members_by n.turns) j) _ _ (record { slot = refl; took = refl }) (record { slot = refl; took = refl })

pub keeps_tick : (n : Node) → Keeps n (tick n)
unfolding tick
keeps_tick n =
    let alive : Effect = sends n (to_others n (members_by n.turns) (Alive n.learner.next)) in
    keeps_also n alive (λ k. also (offers k.own k k.leader) (λ l. sends l (lead_tick l l.leader))) (record { slot = refl; took = refl })
    (keeps_also n (offers n.own n n.leader) (λ l. sends l (lead_tick l l.leader)) (keeps_offers n.own n n.leader) (record { slot = refl; took = refl }))

forget_slot : (k : ℕ) (n : Node) → (forget k n).learner.slot ≡ n.learner.slot
unfolding forget
forget_slot k n =
    cond_both (ltb n.acceptor.low k) (record n { acceptor = forget_votes k n.acceptor; learner = forget_decided k n.learner; leader = option_map (forget_proposals k) n.leader; turns = option_map (forget_configs k) n.turns }) n
    (λ (m : Node). m.learner.slot ≡ n.learner.slot) (λ e. refl) (λ e. refl)

pub keeps_forgets : (n : Node) → Keeps n (forgets n)
keeps_forgets n = record { slot = forget_slot (least_told n) n; took = refl }
