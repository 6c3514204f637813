-- No row sends a Welcome, an Ask or a Give.
use Rattle.std.proofs.Common.{◌≡◌, inl, inr, ℕ, zero, suc, ◌-◌, ◌^◌, Bool, false, cond, ◌||◌, Option, Some, None, List, [], ◌∷◌, ◌++◌, ltb, eqb, refl, sym, subst}
use Rattle.std.specs.Prelude.{is_some, fold, map, flat_map, filter, ◌&&◌, not, nat_le, nat_lt, ◌+◌}
use Rattle.std.proofs.lemmas.Bool.{false≢true, cond_both}
use Rattle.gr_ids.specs.Names.{inc_eq, ballot_eq, ballot_lt, has_inc}
use Rattle.node_rules.specs.Acceptor.{votes_from}
use Rattle.node_rules.specs.Known.{members_by, config_here, last_by, ever_by}
use Rattle.node_rules.specs.Leader.{Leader, Proposal, Choice, proposal_at, keep_promise, take_offer, choice, proposing, accepted_by, count_accepted, has_majority, unpromised, unaccepted}
use Rattle.node_rules.specs.Learner.{is_decided, next_entry}
use Rattle.node_rules.specs.Learning.{hear_learn, settles, counts, lead_accepted, hear_accepted, learns_from, tells, hear_alive}
use Rattle.node_rules.specs.Lists.{In, others, union}
use Rattle.node_rules.specs.Node.{Node, Effect, quiet, sends, also, message, to_others, leads}
use Rattle.node_rules.specs.Proposing.{decided_above, proposes, propose_choice, lead_propose, propose_one, propose_times, propose_all, lead_promise, hear_promise, offers_out, offers, own_value, lead_offer, hear_offer, audience, next_ballot, campaign}
use Rattle.node_rules.specs.Slots.{Entry}
use Rattle.node_rules.specs.Step.{hear, node_step}
use Rattle.node_rules.specs.Taking.{forgets, take_next, take}
use Rattle.node_rules.specs.Ticks.{prepares_again, accepts_again, lead_tick, tick}
use Rattle.node_rules.specs.Voting.{gone_to, votes, promises, hear_prepare, hear_accept}
use Rattle.node_rules.specs.Welcoming.{is_in_order, is_for, welcomed, hear_welcome}
use Rattle.node_rules.specs.World.{Owns, Campaigns, Ticks, Proposes, Takes}
use Rattle.slot_values.specs.Log.{Turns}
use Rattle.order_laws.specs.Laws.{is_joining, OnlyTakingGreets, HearingGreetsNobody, TakingIsSilent}
use Rattle.order_laws.specs.Names.{Inc, Ballot, Value, Vote, Message, Wire, Prepare, Promise, Accept, Accepted, Learn, Offer, Greet, Ask, Give, Alive, Gone, Welcome, Own, Campaign, Tick, Propose}
use Rattle.order_laws.proofs.Lists.{in_append, in_map}

abbrev NoneGreets : List Message → Type 0
NoneGreets ms = (m : Message) → In m ms → is_joining m.wire ≡ false

none_append : (xs ys : List Message) → NoneGreets xs → NoneGreets ys → NoneGreets (xs ++ ys)
none_append xs ys p q m h = elim (in_append m xs ys h) [ inl z ↦ p m z | inr z ↦ q m z ]

none_also : (e : Effect) (f : Node → Effect) → NoneGreets e.sent → NoneGreets (f e.node).sent → NoneGreets (also e f).sent
none_also e f p q = none_append e.sent (f e.node).sent p q

none_if : (b : Bool) (x y : Effect) → NoneGreets x.sent → NoneGreets y.sent → NoneGreets (cond b x y).sent
none_if b x y p q = cond_both b x y (λ (e : Effect). NoneGreets e.sent) (λ h. p) (λ h. q)

none_one : (n : Node) (i : Inc) (x : Wire) → is_joining x ≡ false → NoneGreets (message n i x ∷ [])
none_one n i x h m (inl e) = subst (λ (z : Message). is_joining z.wire ≡ false) e h
none_one n i x h m (inr z) = absurd z

-- the same message to each of these
none_each : (n : Node) (is : List Inc) (x : Wire) → is_joining x ≡ false → NoneGreets (map (λ i. message n i x) is)
none_each n is x h m q = let r = in_map (λ i. message n i x) is m q in subst (λ (z : Message). is_joining z.wire ≡ false) r.2 h

-- the same message to the others of these
none_others : (n : Node) (is : List Inc) (x : Wire) → is_joining x ≡ false → NoneGreets (to_others n is x)
none_others n is x h = none_each n (others n.me is) x h

none_empty : NoneGreets []
none_empty m h = absurd h

none_gone : (n : Node) (i : Inc) → NoneGreets (gone_to n i)
none_gone n i = cond_both (has_inc (ever_by n.turns) i && not (has_inc (members_by n.turns) i)) (message n i Gone ∷ []) [] (λ ms. NoneGreets ms) (λ h. none_one n i Gone refl) (λ h. none_empty)

none_prepare : (j : Inc) (b : Ballot) (s : ℕ) (n : Node) → NoneGreets (hear_prepare j b s n).sent
unfolding hear_prepare
none_prepare j b s n = none_if (ltb s n.acceptor.low) _ _ (none_gone n j) (none_if (ballot_lt b n.acceptor.promise) (quiet n) (sends (promises n b) (message n j (Promise b s (votes_from n.acceptor s)) ∷ [])) none_empty (none_one n j (Promise b s (votes_from n.acceptor s)) refl))

none_accept : (j : Inc) (b : Ballot) (t : ℕ) (v : Value) (n : Node) → NoneGreets (hear_accept j b t v n).sent
unfolding hear_accept
none_accept j b t v n = none_if (ltb t n.acceptor.low) _ _ (none_gone n j) (none_if (ballot_lt b n.acceptor.promise) _ _ none_empty (none_one n j (Accepted b t) refl))

none_accepted : (j : Inc) (b : Ballot) (t : ℕ) (n : Node) → NoneGreets (hear_accepted j b t n).sent
unfolding hear_accepted
none_accepted j b t n = go n.leader
  where
    find : (l : Leader) (o : Option Proposal) → NoneGreets (counts j n l o).sent
    find l None = none_empty
    find l (Some p) =
        let m : Node = leads n (count_accepted l (accepted_by p j)) in
        none_if (is_decided n.learner p.slot) (quiet n) (cond (has_majority n.turns (accepted_by p j)) (settles m p.slot p.value) (quiet m)) none_empty
        (none_if (has_majority n.turns (accepted_by p j)) (settles m p.slot p.value) (quiet m) (none_others m (union (config_here m.turns p.slot) (members_by m.turns)) (Learn p.slot p.value) refl) none_empty)

    go : (o : Option Leader) → NoneGreets (lead_accepted j b t n o).sent
    go None = none_empty
    go (Some l) = none_if (ballot_eq l.ballot b) _ _ (find l (proposal_at l t)) none_empty

none_proposes : (n : Node) (l : Leader) (c : Choice) → NoneGreets (proposes n l c).sent
none_proposes n l c =
    let x : Vote = record { slot = c.slot; ballot = l.ballot; value = c.value } in
    let m : Node = leads (votes n x) (proposing l c) in
    let e : Effect = record { node = m; sent = to_others n (config_here n.turns c.slot) (Accept l.ballot c.slot c.value); cast = x ∷ []; took = [] } in
    none_also e (hear_accepted n.me l.ballot c.slot) (none_others n (config_here n.turns c.slot) (Accept l.ballot c.slot c.value) refl) (none_accepted n.me l.ballot c.slot m)

none_propose_one : (n : Node) → NoneGreets (propose_one n).sent
unfolding propose_one
none_propose_one n = go n.leader
  where
    chosen : (l : Leader) (o : Option Choice) → NoneGreets (propose_choice n l o).sent
    chosen l None = none_empty
    chosen l (Some c) = none_proposes n l c

    go : (o : Option Leader) → NoneGreets (lead_propose n o).sent
    go None = none_empty
    go (Some l) = chosen l (choice (is_decided n.learner) (decided_above n.learner) n.turns l n.horizon n.learner.next)

none_times : (k : ℕ) (n : Node) → NoneGreets (propose_times k n).sent
none_times zero n = none_empty
none_times (suc k) n = none_also (propose_one n) (propose_times k) (none_propose_one n) (none_times k (propose_one n).node)

none_all : (n : Node) → NoneGreets (propose_all n).sent
none_all n = none_times n.horizon n

none_leads : (n : Node) (l : Leader) → NoneGreets (also (quiet (leads n l)) propose_all).sent
none_leads n l = none_also (quiet (leads n l)) propose_all none_empty (none_all (leads n l))

none_promise : (j : Inc) (b : Ballot) (xs : List Vote) (n : Node) → NoneGreets (hear_promise j b xs n).sent
unfolding hear_promise
none_promise j b xs n = go n.leader
  where
    go : (o : Option Leader) → NoneGreets (lead_promise j b xs n o).sent
    go None = none_empty
    go (Some l) = none_if (ballot_eq l.ballot b) _ _ (none_leads n (keep_promise l j xs)) none_empty

none_out : (n : Node) (vs : List Value) → NoneGreets (offers_out n vs)
none_out n vs = cond_both (eqb n.acceptor.promise.round 0 || inc_eq n.acceptor.promise.inc n.me) [] (map (λ v. message n n.acceptor.promise.inc (Offer v)) vs) (λ ms. NoneGreets ms) (λ h. none_empty)
    (λ h m q. let r = in_map (λ v. message n n.acceptor.promise.inc (Offer v)) vs m q in subst (λ (z : Message). is_joining z.wire ≡ false) r.2 refl)

none_offers : (vs : List Value) (n : Node) (o : Option Leader) → NoneGreets (offers vs n o).sent
none_offers vs n None = none_out n vs
none_offers vs n (Some l) = none_leads n (fold (take_offer (is_decided n.learner) (last_by n.turns)) l vs)

none_own : (v : Value) (n : Node) → NoneGreets (own_value v n).sent
unfolding own_value
none_own v n = none_offers (v ∷ []) (record n { own = n.own ++ v ∷ [] }) n.leader

none_offer : (v : Value) (n : Node) → NoneGreets (hear_offer v n).sent
unfolding hear_offer
none_offer v n = none_if (eqb v.id.number 0) _ _ none_empty (go n.leader)
  where
    go : (o : Option Leader) → NoneGreets (lead_offer v n o).sent
    go None = none_empty
    go (Some l) = none_leads n (fold (take_offer (is_decided n.learner) (last_by n.turns)) l (v ∷ []))

none_campaign : (n : Node) → NoneGreets (campaign n).sent
unfolding campaign
none_campaign n = none_if (eqb n.acceptor.promise.round (2 ^ 32 - 1) || not (is_some n.turns)) (quiet n) _ none_empty (none_others n (audience n) (Prepare (next_ballot n) n.learner.next) refl)

none_alive : (j : Inc) (k : ℕ) (n : Node) → NoneGreets (hear_alive j k n).sent
unfolding hear_alive
none_alive j k n = none_if (has_inc (members_by n.turns) j) (sends (record n { told = tells n.told j k }) (learns_from n j k)) (sends n (gone_to n j)) learns (none_gone n j)
  where
    learns : NoneGreets (learns_from n j k)
    learns m q = let r = in_map (λ (e : Entry). message n j (Learn e.slot e.value)) (filter (λ e. nat_le k e.slot && (nat_lt e.slot (k + 10) && nat_lt e.slot n.learner.next)) n.learner.decided) m q in subst (λ (z : Message). is_joining z.wire ≡ false) r.2 refl

none_again : (n : Node) (l : Leader) (ps : List Proposal) → NoneGreets (flat_map (accepts_again n l) ps)
none_again n l [] = none_empty
none_again n l (p ∷ ps) = none_append (accepts_again n l p) (flat_map (accepts_again n l) ps) (cond_both (is_decided n.learner p.slot) [] (to_others n (unaccepted n.turns p) (Accept l.ballot p.slot p.value)) (λ ms. NoneGreets ms) (λ h. none_empty) (λ h. none_others n (unaccepted n.turns p) (Accept l.ballot p.slot p.value) refl)) (none_again n l ps)

none_lead_tick : (n : Node) (o : Option Leader) → NoneGreets (lead_tick n o)
none_lead_tick n None = none_empty
none_lead_tick n (Some l) = none_append (prepares_again n l) (flat_map (accepts_again n l) l.proposals) (cond_both (eqb l.ballot.round 1) [] (to_others n (unpromised n.turns l n.horizon n.learner.next) (Prepare l.ballot n.learner.next)) (λ ms. NoneGreets ms) (λ h. none_empty) (λ h. none_others n (unpromised n.turns l n.horizon n.learner.next) (Prepare l.ballot n.learner.next) refl)) (none_again n l l.proposals)

none_tick : (n : Node) → NoneGreets (tick n).sent
unfolding tick
none_tick n =
    let alive : Effect = sends n (to_others n (members_by n.turns) (Alive n.learner.next)) in
    none_also alive (λ k. also (offers k.own k k.leader) (λ l. sends l (lead_tick l l.leader))) (none_others n (members_by n.turns) (Alive n.learner.next) refl)
    (none_also (offers n.own n n.leader) (λ l. sends l (lead_tick l l.leader)) (none_offers n.own n n.leader) (none_lead_tick (offers n.own n n.leader).node (offers n.own n n.leader).node.leader))

none_welcome : (x : Welcome) (n : Node) → NoneGreets (hear_welcome x n).sent
unfolding hear_welcome
none_welcome x n = none_if (not (is_some n.turns) && (is_in_order x && is_for x n.me n.horizon)) (quiet (welcomed n x)) (quiet n) none_empty none_empty

none_learn : (t : ℕ) (v : Value) (n : Node) → NoneGreets (hear_learn t v n).sent
unfolding hear_learn
none_learn t v n = none_empty

none_hear : (i : Inc) (x : Wire) (n : Node) → NoneGreets (hear i x n).sent
unfolding hear
none_hear i (Prepare b s) n = none_prepare i b s n
none_hear i (Promise b s xs) n = none_promise i b xs n
none_hear i (Accept b t v) n = none_accept i b t v n
none_hear i (Accepted b t) n = none_accepted i b t n
none_hear i (Learn t v) n = none_learn t v n
none_hear i (Offer v) n = none_offer v n
none_hear i (Greet x) n = none_welcome x n
none_hear i (Ask x) n = none_empty
none_hear i (Give x) n = none_empty
none_hear i (Alive k) n = none_alive i k n
none_hear i Gone n = none_empty

none_forgets : (e : Effect) → NoneGreets e.sent → NoneGreets (also e forgets).sent
none_forgets e h = none_also e forgets h none_empty

pub hearing_greets_nobody : HearingGreetsNobody
unfolding node_step
hearing_greets_nobody h n = none_forgets (hear h.from h.wire n) (none_hear h.from h.wire n)

none_step_own : (v : Value) (n : Node) → NoneGreets (node_step (Own v) n).sent
unfolding node_step
none_step_own v n = none_forgets (own_value v n) (none_own v n)

none_step_campaign : (n : Node) → NoneGreets (node_step Campaign n).sent
unfolding node_step
none_step_campaign n = none_forgets (campaign n) (none_campaign n)

none_step_tick : (n : Node) → NoneGreets (node_step Tick n).sent
unfolding node_step
none_step_tick n = none_forgets (tick n) (none_tick n)

none_step_propose : (n : Node) → NoneGreets (node_step Propose n).sent
unfolding node_step
none_step_propose n = none_forgets (propose_all n) (none_all n)

pub only_taking_greets : OnlyTakingGreets
only_taking_greets i (Owns v) n m t h = none_if (inc_eq v.id.origin i) (node_step (Own v) n) (quiet n) (none_step_own v n) none_empty m h
only_taking_greets i Campaigns n m t h = none_step_campaign n m h
only_taking_greets i Ticks n m t h = none_step_tick n m h
only_taking_greets i Proposes n m t h = none_step_propose n m h
only_taking_greets i (Takes s) n m t h = absurd (false≢true (sym t))

pub taking_is_silent : TakingIsSilent
unfolding take
taking_is_silent n = go n.turns (next_entry n.learner)
  where
    go : (o : Option Turns) (p : Option Entry) → (take_next n o p).sent ++ [] ≡ []
    go None p = refl
    go (Some w) None = refl
    go (Some w) (Some e) = refl
