-- No act invents a value but a Noop: each value anywhere was made by its origin, but for an Offer that has no number.
use Rattle.std.proofs.Common.{◌≡◌, ℕ, zero, suc, ◌+◌, ◌-◌, ◌^◌, Bool, true, false, not, cond, ◌⊎◌, inl, inr, ◌||◌, ◌&&◌, Option, Some, None, List, [], ◌∷◌, ◌++◌, ltb, leb, eqb, refl, sym, ◌∙◌, subst}
use Rattle.std.specs.Prelude.{slice_get, is_some, map, filter, flat_map, fold, option_map}
use Rattle.std.proofs.lemmas.Bool.{false≢true, cases_Bool, cond_both}
use Rattle.gr_ids.specs.Names.{ballot_eq, ballot_lt, has_inc, inc_eq}
use Rattle.node_rules.specs.Acceptor.{promising, votes_from, forget_votes}
use Rattle.node_rules.specs.Known.{members_by, ever_by, config_here, last_by}
use Rattle.node_rules.specs.Leader.{Promised, has_promise, best, Leader, Proposal, Choice, new_leader, proposal_at, keep_promise, take_offer, refuses_offer, free_slot, may_propose, reported_above, noop, first_offer, choice, choice_at, proposing, accepted_by, count_accepted, has_majority, unpromised, unaccepted, forget_proposals}
use Rattle.node_rules.specs.Learner.{Learner, is_decided, advanced, learn, next_entry, forget_decided}
use Rattle.node_rules.specs.Learning.{learns, hear_learn, settles, counts, lead_accepted, hear_accepted, tells, learns_from, hear_alive}
use Rattle.node_rules.specs.Lists.{In, union, others}
use Rattle.node_rules.specs.Node.{takes_effect, Node, Effect, quiet, sends, also, message, to_others, leads, first_inc, first_ballot, founder, joiner}
use Rattle.node_rules.specs.Proposing.{decided_above, proposes, propose_choice, lead_propose, propose_one, propose_times, propose_all, lead_promise, hear_promise, offers_out, offers, own_value, lead_offer, hear_offer, audience, next_ballot, campaign}
use Rattle.node_rules.specs.Slots.{Entry, put_slot}
use Rattle.node_rules.specs.Step.{hear, row, node_step}
use Rattle.node_rules.specs.Taking.{least_told, forget, forgets, take_next, take}
use Rattle.node_rules.specs.Ticks.{prepares_again, accepts_again, lead_tick, tick}
use Rattle.node_rules.specs.Voting.{promises, votes, gone_to, hear_prepare, hear_accept}
use Rattle.node_rules.specs.Welcoming.{Shown, welcome_of, is_in_order, is_for, higher_ballot, welcomed, hear_welcome}
use Rattle.node_rules.specs.World.{World, Took, Act, Owns, Campaigns, Ticks, Proposes, Takes, Event, Hears, Does, Starts, Ends, greet_by, greets, takes, does, does_all, made_by, all_made_by, Arranges, put_node, took_by, acted, makes, act_on, acts, hears, start_sent, starts, happens, start, run_from, run}
use Rattle.order_laws.specs.Laws.{InEveryRun, MadeBefore}
use Rattle.order_laws.specs.Names.{Taken, PaxosEvent, Heard, Own, Campaign, Tick, Propose, Inc, Ballot, Value, What, Noop, Add, Remove, Body, Joiner, Vote, Message, Wire, Prepare, Promise, Accept, Accepted, Learn, Offer, Greet, Ask, Give, Alive, Gone, Welcome}
use Rattle.slot_values.specs.Log.{Group, Turns, turn, last_in, forget_configs}
use Rattle.order_laws.proofs.Lists.{in_right, in_left, in_append, in_push, in_put, in_from, in_map, in_filter, in_flat, at_slot-in, best_real}
use Rattle.order_laws.proofs.Inv.{Nodes, put_cases}
use Rattle.order_laws.proofs.Acts.{append_nil, still_led}
use Rattle.order_laws.proofs.Takes.{next-entry}
use Rattle.order_laws.proofs.Runs.{get-in}

module _ (P : Value → Type 0) (noops : (v : Value) → v.what ≡ Noop → P v) where
  VotesOk : List Vote → Type 0
  VotesOk xs = (x : Vote) → In x xs → P x.value

  record LeaderVals (l : Leader) : Type 0 where
    promises : (p : Promised) → In p l.promises → (x : Vote) → In x p.votes → P x.value
    proposals : (p : Proposal) → In p l.proposals → P p.value
    offers : (v : Value) → In v l.offers → P v

  record NodeVals (n : Node) : Type 0 where
    votes : (x : Vote) → In x n.acceptor.votes → P x.value
    decided : (e : Entry) → In e n.learner.decided → P e.value
    own : (v : Value) → In v n.own → P v
    leader : (l : Leader) → n.leader ≡ Some l → LeaderVals l

  abbrev WireVals : Wire → Type 0
  WireVals (Promise b s xs) = (x : Vote) → In x xs → P x.value
  WireVals (Accept b t v) = P v
  WireVals (Learn t v) = P v
  WireVals (Offer v) = (eqb v.id.number 0 ≡ true) ⊎ P v
  WireVals (Prepare b s) = Unit {0}
  WireVals (Accepted b t) = Unit {0}
  WireVals (Greet x) = Unit {0}
  WireVals (Ask x) = Unit {0}
  WireVals (Give x) = Unit {0}
  WireVals (Alive k) = Unit {0}
  WireVals Gone = Unit {0}

  record Vals (e : Effect) : Type 0 where
    node : NodeVals e.node
    sent : (m : Message) → In m e.sent → WireVals m.wire
    took : (x : Taken) → In x e.took → P x.value

  vals_quiet : (n : Node) → NodeVals n → Vals (quiet n)
  vals_quiet n k = record { node = k; sent = λ m h. absurd h; took = λ x h. absurd h }

  vals_sends : (n : Node) (ms : List Message) → NodeVals n → ((m : Message) → In m ms → WireVals m.wire) → Vals (sends n ms)
  vals_sends n ms k s = record { node = k; sent = s; took = λ x h. absurd h }

  vals_also : (e : Effect) (f : Node → Effect) → Vals e → (NodeVals e.node → Vals (f e.node)) → Vals (also e f)
  vals_also e f k l =
      let r = l k.node in
      record {
        node = r.node;
        sent = λ m h. elim (in_append m e.sent (f e.node).sent h) [ inl q ↦ k.sent m q | inr q ↦ r.sent m q ];
        took = λ x h. elim (in_append x e.took (f e.node).took h) [ inl q ↦ k.took x q | inr q ↦ r.took x q ];
      }

  vals_if : (b : Bool) (x y : Effect) → Vals x → Vals y → Vals (cond b x y)
  vals_if b x y k l = cond_both b x y (λ e. Vals e) (λ h. k) (λ h. l)

  one_message : (x : Message) → WireVals x.wire → (m : Message) → In m (x ∷ []) → WireVals m.wire
  one_message x k m h = elim h [ inl e ↦ subst (λ z. WireVals z.wire) e k | inr b ↦ absurd b ]

  others_vals : (n : Node) (is : List Inc) (y : Wire) → WireVals y → (m : Message) → In m (to_others n is y) → WireVals m.wire
  others_vals n is y k m h = let r = in_map (λ i. message n i y) (others n.me is) m h in subst (λ z. WireVals z.wire) r.2 k

  gone_vals : (n : Node) (i : Inc) (m : Message) → In m (gone_to n i) → WireVals m.wire
  gone_vals n i m h = go (has_inc (ever_by n.turns) i && not (has_inc (members_by n.turns) i)) refl
    where
      go : (u : Bool) → (has_inc (ever_by n.turns) i && not (has_inc (members_by n.turns) i)) ≡ u → WireVals m.wire
      go true e = let q : In m (message n i Gone ∷ []) = rw e at h in one_message (message n i Gone) tt m q
      go false e = let q : In m [] = rw e at h in absurd q

  node_promises : (n : Node) (b : Ballot) → NodeVals n → NodeVals (promises n b)
  node_promises n b k = record { votes = k.votes; decided = k.decided; own = k.own; leader = λ l e. k.leader l (still_led b n.leader l e).0 }

  vals_prepare : (j : Inc) (b : Ballot) (s : ℕ) (n : Node) → NodeVals n → Vals (hear_prepare j b s n)
  unfolding hear_prepare
  vals_prepare j b s n k =
      let msg : Message = message n j (Promise b s (votes_from n.acceptor s)) in
      vals_if (ltb s n.acceptor.low) (sends n (gone_to n j)) (cond (ltb' b n) (quiet n) (sends (promises n b) (msg ∷ []))) (vals_sends n (gone_to n j) k (gone_vals n j))
      (vals_if (ltb' b n) (quiet n) (sends (promises n b) (msg ∷ [])) (vals_quiet n k)
      (vals_sends (promises n b) (msg ∷ []) (node_promises n b k) (one_message msg (λ x h. k.votes x (in_from (λ y. y.slot) n.acceptor.votes s x h)))))
    where
      ltb' : Ballot → Node → Bool
      ltb' b n = ballot_lt b n.acceptor.promise

  node_votes : (n : Node) (x : Vote) → P x.value → NodeVals n → NodeVals (votes n x)
  node_votes n x p k = record { votes = λ y h. elim (in_put (λ z. z.slot) n.acceptor.votes x y h) [ inl e ↦ subst (λ z. P z.value) e p | inr q ↦ k.votes y q ]; decided = k.decided; own = k.own; leader = k.leader }

  vals_accept : (j : Inc) (b : Ballot) (t : ℕ) (v : Value) (n : Node) → P v → NodeVals n → Vals (hear_accept j b t v n)
  unfolding hear_accept
  vals_accept j b t v n p k =
      let x : Vote = record { slot = t; ballot = b; value = v } in
      let msg : Message = message n j (Accepted b t) in
      let e : Effect = record { node = votes (promises n b) x; sent = msg ∷ []; cast = x ∷ []; took = [] } in
      vals_if (ltb t n.acceptor.low) (sends n (gone_to n j)) (cond (ballot_lt b n.acceptor.promise) (quiet n) e) (vals_sends n (gone_to n j) k (gone_vals n j))
      (vals_if (ballot_lt b n.acceptor.promise) (quiet n) e (vals_quiet n k) (record { node = node_votes (promises n b) x p (node_promises n b k); sent = one_message msg tt; took = λ y h. absurd h }))

  learner_vals : (d : Learner) (t : ℕ) (v : Value) → P v → ((e : Entry) → In e d.decided → P e.value) → (e : Entry) → In e (learn d t v).decided → P e.value
  learner_vals d t v p k =
      cond_both (is_decided d t) d (advanced (record d { decided = put_slot (λ e. e.slot) d.decided (record { slot = t; value = v }) })) (λ (z : Learner). (e : Entry) → In e z.decided → P e.value) (λ q. k)
      (λ q e h. elim (in_put (λ z. z.slot) d.decided (record { slot = t; value = v }) e h) [ inl q ↦ subst (λ z. P z.value) q p | inr q ↦ k e q ])

  node_learns : (n : Node) (t : ℕ) (v : Value) → P v → NodeVals n → NodeVals (learns n t v)
  node_learns n t v p k = record { votes = k.votes; decided = learner_vals n.learner t v p k.decided; own = k.own; leader = k.leader }

  vals_learn : (t : ℕ) (v : Value) (n : Node) → P v → NodeVals n → Vals (hear_learn t v n)
  unfolding hear_learn
  vals_learn t v n p k = vals_quiet (learns n t v) (node_learns n t v p k)

  node_leads : (n : Node) (l : Leader) → NodeVals n → LeaderVals l → NodeVals (leads n l)
  node_leads n l k o = record { votes = k.votes; decided = k.decided; own = k.own; leader = λ m e. let q : l ≡ m = cc in subst (λ z. LeaderVals z) q o }

  leader_keeps : (l : Leader) (j : Inc) (xs : List Vote) → VotesOk xs → LeaderVals l → LeaderVals (keep_promise l j xs)
  unfolding VotesOk
  leader_keeps l j xs p o =
      let new : Promised = record { inc = j; votes = xs } in
      cond_both (has_promise l.promises j) l (record l { promises = l.promises ++ new ∷ [] }) (λ (z : Leader). LeaderVals z) (λ e. o)
      (λ e. record { promises = λ q h. elim (in_push q l.promises new h) [ inl z ↦ o.promises q z | inr z ↦ subst (λ y. (x : Vote) → In x y.votes → P x.value) z p ]; proposals = o.proposals; offers = o.offers })

  vals_accepted : (j : Inc) (b : Ballot) (t : ℕ) (n : Node) → NodeVals n → Vals (hear_accepted j b t n)
  unfolding hear_accepted
  vals_accepted j b t n k = go n.leader refl
    where
      find : (l : Leader) → n.leader ≡ Some l → (o : Option Proposal) → proposal_at l t ≡ o → Vals (counts j n l o)
      find l e None f = vals_quiet n k
      find l e (Some p) f =
          let o = k.leader l e in
          let pv : P p.value = o.proposals p (at_slot-in (λ x. x.slot) l.proposals t p f) in
          let q : Proposal = accepted_by p j in
          let l' : Leader = count_accepted l q in
          let m : Node = leads n l' in
          let mk : NodeVals m = node_leads n l' k (record { promises = o.promises; proposals = λ y h. elim (in_put (λ x. x.slot) l.proposals q y h) [ inl z ↦ subst (λ v. P v.value) z pv | inr z ↦ o.proposals y z ]; offers = o.offers }) in
          vals_if (is_decided n.learner p.slot) (quiet n) (cond (has_majority n.turns q) (settles m p.slot p.value) (quiet m)) (vals_quiet n k)
          (vals_if (has_majority n.turns q) (settles m p.slot p.value) (quiet m)
          (vals_sends (learns m p.slot p.value) _ (node_learns m p.slot p.value pv mk) (others_vals m (union (config_here m.turns p.slot) (members_by m.turns)) (Learn p.slot p.value) pv))
          (vals_quiet m mk))

      go : (o : Option Leader) → n.leader ≡ o → Vals (lead_accepted j b t n o)
      go None e = vals_quiet n k
      go (Some l) e = vals_if (ballot_eq l.ballot b) (counts j n l (proposal_at l t)) (quiet n) (find l e (proposal_at l t) refl) (vals_quiet n k)

  vals_proposes : (n : Node) (l : Leader) (c : Choice) → P c.value → ((o : Value) → In o c.offers → P o) → NodeVals n → LeaderVals l → Vals (proposes n l c)
  vals_proposes n l c pv po k o =
      let q : Proposal = record { slot = c.slot; value = c.value; accepted = [] } in
      let x : Vote = record { slot = c.slot; ballot = l.ballot; value = c.value } in
      let l' : Leader = proposing l c in
      let m : Node = leads (votes n x) l' in
      let e : Effect = record { node = m; sent = to_others n (config_here n.turns c.slot) (Accept l.ballot c.slot c.value); cast = x ∷ []; took = [] } in
      let mk : NodeVals m = node_leads (votes n x) l' (node_votes n x pv k) (record { promises = o.promises; proposals = λ y h. elim (in_put (λ p. p.slot) l.proposals q y h) [ inl z ↦ subst (λ w. P w.value) z pv | inr z ↦ o.proposals y z ]; offers = po }) in
      vals_also e (hear_accepted n.me l.ballot c.slot) (record { node = mk; sent = others_vals n (config_here n.turns c.slot) (Accept l.ballot c.slot c.value) pv; took = λ y h. absurd h }) (λ z. vals_accepted n.me l.ballot c.slot m z)

  record ChoiceVals (c : Choice) : Type 0 where
    value : P c.value
    offers : (v : Value) → In v c.offers → P v

  choice_vals : (above : ℕ → Bool) (w : Option Turns) (l : Leader) → LeaderVals l → (o : Option ℕ) (c : Choice) → choice_at above w l o ≡ Some c → ChoiceVals c
  choice_vals above w l k None c h = absurd (cc)
  choice_vals above w l k (Some t) c h = go (may_propose w l t) refl (best (config_here w t) l.promises t) refl
    where
      chosen : (d : Choice) → Some d ≡ Some c → ChoiceVals d → ChoiceVals c
      chosen d e v = let q : d ≡ c = cc in subst ChoiceVals q v

      offer : (os : List Value) → ((v : Value) → In v os → P v) → first_offer t os ≡ Some c → ChoiceVals c
      offer [] p e = absurd (cc)
      offer (v ∷ vs) p e = chosen (record { slot = t; value = v; offers = vs }) e (record { value = p v (inl refl); offers = λ x q. p x (inr q) })

      fill : (u : Bool) → cond u (Some (record { slot = t; value = noop l.ballot.inc; offers = l.offers })) (first_offer t l.offers) ≡ Some c → ChoiceVals c
      fill true e = chosen (record { slot = t; value = noop l.ballot.inc; offers = l.offers }) e (record { value = noops (noop l.ballot.inc) refl; offers = k.offers })
      fill false e = offer l.offers k.offers e

      go : (u : Bool) → may_propose w l t ≡ u → (b : Option Vote) → best (config_here w t) l.promises t ≡ b → ChoiceVals c
      go false m b e = let z : None ≡ Some c = rw m at h in absurd (cc)
      go true m (Some x) e =
          let r = best_real (config_here w t) l.promises t x e in
          chosen (record { slot = t; value = x.value; offers = l.offers }) (rw (m, e) at h) (record { value = k.promises r.0 r.1 x (at_slot-in (λ y. y.slot) (r.0).votes t x r.2); offers = k.offers })
      go true m None e = fill (reported_above l.promises t || above t) (rw (m, e) at h)

  vals_propose_one : (n : Node) → NodeVals n → Vals (propose_one n)
  unfolding propose_one
  vals_propose_one n k = go n.leader refl
    where
      chosen : (l : Leader) → LeaderVals l → (o : Option Choice) → choice (is_decided n.learner) (decided_above n.learner) n.turns l n.horizon n.learner.next ≡ o → Vals (propose_choice n l o)
      chosen l o None e = vals_quiet n k
      chosen l o (Some c) e = let v = choice_vals (decided_above n.learner) n.turns l o (free_slot (is_decided n.learner) l n.horizon n.learner.next) c e in vals_proposes n l c v.value v.offers k o

      go : (o : Option Leader) → n.leader ≡ o → Vals (lead_propose n o)
      go None e = vals_quiet n k
      go (Some l) e = chosen l (k.leader l e) (choice (is_decided n.learner) (decided_above n.learner) n.turns l n.horizon n.learner.next) refl

  vals_times : (c : ℕ) (n : Node) → NodeVals n → Vals (propose_times c n)
  vals_times zero n k = vals_quiet n k
  vals_times (suc c) n k = vals_also (propose_one n) (propose_times c) (vals_propose_one n k) (λ z. vals_times c (propose_one n).node z)

  vals_all : (n : Node) → NodeVals n → Vals (propose_all n)
  vals_all n k = vals_times n.horizon n k

  -- a new state of the leader, and then proposals
  vals_leads : (n : Node) (l : Leader) → NodeVals n → LeaderVals l → Vals (also (quiet (leads n l)) propose_all)
  vals_leads n l k o = vals_also (quiet (leads n l)) propose_all (vals_quiet (leads n l) (node_leads n l k o)) (λ z. vals_all (leads n l) z)

  vals_promise : (j : Inc) (b : Ballot) (xs : List Vote) (n : Node) → VotesOk xs → NodeVals n → Vals (hear_promise j b xs n)
  unfolding hear_promise
  vals_promise j b xs n p k = go n.leader refl
    where
      go : (o : Option Leader) → n.leader ≡ o → Vals (lead_promise j b xs n o)
      go None e = vals_quiet n k
      go (Some l) e = vals_if (ballot_eq l.ballot b) _ _ (vals_leads n (keep_promise l j xs) k (leader_keeps l j xs p (k.leader l e))) (vals_quiet n k)

  offer_vals : (d : ℕ → Bool) (last : Inc → ℕ) (l : Leader) (v : Value) → P v → LeaderVals l → LeaderVals (take_offer d last l v)
  offer_vals d last l v p o =
      cond_both (refuses_offer d last l v) l (record l { offers = l.offers ++ v ∷ [] }) (λ (z : Leader). LeaderVals z) (λ e. o)
      (λ e. record { promises = o.promises; proposals = o.proposals; offers = λ x q. elim (in_push x l.offers v q) [ inl z ↦ o.offers x z | inr z ↦ subst (λ y. P y) z p ] })

  offers_vals : (d : ℕ → Bool) (last : Inc → ℕ) (vs : List Value) (l : Leader) → ((v : Value) → In v vs → P v) → LeaderVals l → LeaderVals (fold (take_offer d last) l vs)
  offers_vals d last [] l p o = o
  offers_vals d last (v ∷ vs) l p o = offers_vals d last vs (take_offer d last l v) (λ x h. p x (inr h)) (offer_vals d last l v (p v (inl refl)) o)

  out_vals : (n : Node) (vs : List Value) → ((v : Value) → In v vs → P v) → (m : Message) → In m (offers_out n vs) → WireVals m.wire
  out_vals n vs p m =
      let out : List Message = map (λ v. message n n.acceptor.promise.inc (Offer v)) vs in
      cond_both (eqb n.acceptor.promise.round 0 || inc_eq n.acceptor.promise.inc n.me) [] (map (λ v. message n n.acceptor.promise.inc (Offer v)) vs) (λ ms. In m ms → WireVals m.wire) (λ e h. absurd h)
      (λ e h. let r = in_map (λ v. message n n.acceptor.promise.inc (Offer v)) vs m h in subst (λ z. WireVals z.wire) r.2 (inr (p r.0 r.1)))

  vals_offers : (vs : List Value) (n : Node) (o : Option Leader) → n.leader ≡ o → ((v : Value) → In v vs → P v) → NodeVals n → Vals (offers vs n o)
  vals_offers vs n None e p k = vals_sends n (offers_out n vs) k (out_vals n vs p)
  vals_offers vs n (Some l) e p k = vals_leads n (fold (take_offer (is_decided n.learner) (last_by n.turns)) l vs) k (offers_vals (is_decided n.learner) (last_by n.turns) vs l p (k.leader l e))

  one_value : (v : Value) → P v → (x : Value) → In x (v ∷ []) → P x
  one_value v p x h = elim h [ inl e ↦ subst (λ z. P z) e p | inr b ↦ absurd b ]

  vals_own : (v : Value) (n : Node) → P v → NodeVals n → Vals (own_value v n)
  unfolding own_value
  vals_own v n p k =
      vals_offers (v ∷ []) (record n { own = n.own ++ v ∷ [] }) n.leader refl (one_value v p)
      (record { votes = k.votes; decided = k.decided; own = λ x h. elim (in_push x n.own v h) [ inl q ↦ k.own x q | inr e ↦ subst (λ z. P z) e p ]; leader = k.leader })

  -- one that has no number is passed over
  vals_offer : (v : Value) (n : Node) → (eqb v.id.number 0 ≡ true) ⊎ P v → NodeVals n → Vals (hear_offer v n)
  unfolding hear_offer
  vals_offer v n p k = cond_both (eqb v.id.number 0) (quiet n) (lead_offer v n n.leader) (λ e. Vals e) (λ h. vals_quiet n k)
      (λ h. elim p [ inl q ↦ absurd (false≢true (sym h ∙ q)) | inr q ↦ go q n.leader refl ])
    where
      go : P v → (o : Option Leader) → n.leader ≡ o → Vals (lead_offer v n o)
      go q None e = vals_quiet n k
      go q (Some l) e = vals_leads n (fold (take_offer (is_decided n.learner) (last_by n.turns)) l (v ∷ [])) k (offers_vals (is_decided n.learner) (last_by n.turns) (v ∷ []) l (one_value v q) (k.leader l e))

  vals_campaign : (n : Node) → NodeVals n → Vals (campaign n)
  unfolding campaign
  vals_campaign n k =
      let own : Promised = record { inc = n.me; votes = votes_from n.acceptor n.learner.next } in
      let l : Leader = new_leader (next_ballot n) (own ∷ []) in
      let m : Node = record n { acceptor = promising n.acceptor (next_ballot n); leader = Some l } in
      let lk : LeaderVals l = record { promises = λ p h. elim h [ inl e ↦ subst (λ z. (x : Vote) → In x z.votes → P x.value) e (λ x q. k.votes x (in_from (λ y. y.slot) n.acceptor.votes n.learner.next x q)) | inr b ↦ absurd b ]; proposals = λ p h. absurd h; offers = λ v h. absurd h } in
      let mk : NodeVals m = record { votes = k.votes; decided = k.decided; own = k.own; leader = λ y e. let q : l ≡ y = cc in subst (λ z. LeaderVals z) q lk } in
      vals_if (eqb n.acceptor.promise.round (2 ^ 32 - 1) || not (is_some n.turns)) (quiet n) (sends m (to_others n (audience n) (Prepare (next_ballot n) n.learner.next))) (vals_quiet n k) (vals_sends m _ mk (others_vals n (audience n) (Prepare (next_ballot n) n.learner.next) tt))

  learns_vals : (j : Inc) (n : Node) → NodeVals n → (c : ℕ) (m : Message) → In m (learns_from n j c) → WireVals m.wire
  learns_vals j n k c m h =
      let test = (λ (e : Entry). leb c e.slot && (ltb e.slot (c + 10) && ltb e.slot n.learner.next)) in
      let r = in_map (λ (e : Entry). message n j (Learn e.slot e.value)) (filter test n.learner.decided) m h in
      subst (λ z. WireVals z.wire) r.2 (k.decided r.0 (in_filter test n.learner.decided r.0 r.1))

  vals_alive : (j : Inc) (c : ℕ) (n : Node) → NodeVals n → Vals (hear_alive j c n)
  unfolding hear_alive
  vals_alive j c n k =
      let m : Node = record n { told = tells n.told j c } in
      vals_if (has_inc (members_by n.turns) j) (sends m (learns_from n j c)) (sends n (gone_to n j))
      (vals_sends m (learns_from n j c) (record { votes = k.votes; decided = k.decided; own = k.own; leader = k.leader }) (learns_vals j n k c)) (vals_sends n (gone_to n j) k (gone_vals n j))

  accepts_vals : (n : Node) (l : Leader) (ps : List Proposal) → ((p : Proposal) → In p ps → P p.value) → (m : Message) → In m (flat_map (accepts_again n l) ps) → WireVals m.wire
  accepts_vals n l ps k m h =
      let r = in_flat (accepts_again n l) ps m h in
      cond_both (is_decided n.learner (r.0).slot) [] (to_others n (unaccepted n.turns r.0) (Accept l.ballot (r.0).slot (r.0).value)) (λ ms. In m ms → WireVals m.wire) (λ e q. absurd q)
      (λ e q. others_vals n (unaccepted n.turns r.0) (Accept l.ballot (r.0).slot (r.0).value) (k r.0 r.1) m q) r.2

  tick_vals : (n : Node) → NodeVals n → (o : Option Leader) → n.leader ≡ o → (m : Message) → In m (lead_tick n o) → WireVals m.wire
  tick_vals n k None e m h = absurd h
  tick_vals n k (Some l) e m h = elim (in_append m (prepares_again n l) (flat_map (accepts_again n l) l.proposals) h) [
    | inl q ↦ cond_both (eqb l.ballot.round 1) [] (to_others n (unpromised n.turns l n.horizon n.learner.next) (Prepare l.ballot n.learner.next)) (λ ms. In m ms → WireVals m.wire) (λ f z. absurd z)
        (λ f z. others_vals n (unpromised n.turns l n.horizon n.learner.next) (Prepare l.ballot n.learner.next) tt m z) q
    | inr q ↦ accepts_vals n l l.proposals (k.leader l e).proposals m q
  ]

  vals_tick : (n : Node) → NodeVals n → Vals (tick n)
  unfolding tick
  vals_tick n k =
      let alive : List Message = to_others n (members_by n.turns) (Alive n.learner.next) in
      let m : Node = (offers n.own n n.leader).node in
      vals_also (sends n alive) (λ m. also (offers m.own m m.leader) (λ l. sends l (lead_tick l l.leader))) (vals_sends n alive k (others_vals n (members_by n.turns) (Alive n.learner.next) tt))
      (λ z. vals_also (offers n.own n n.leader) (λ l. sends l (lead_tick l l.leader)) (vals_offers n.own n n.leader refl k.own k) (λ y. vals_sends m (lead_tick m m.leader) y (tick_vals m y m.leader refl)))

  -- ---- taking and forgetting

  vals_forgets : (n : Node) → NodeVals n → Vals (forgets n)
  unfolding forget
  vals_forgets n k =
      let c : ℕ = least_told n in
      let m : Node = record n { acceptor = forget_votes c n.acceptor; learner = forget_decided c n.learner; leader = option_map (forget_proposals c) n.leader; turns = option_map (forget_configs c) n.turns } in
      vals_quiet (forget (least_told n) n) (cond_both (ltb n.acceptor.low (least_told n)) m n (λ (z : Node). NodeVals z)
      (λ e. record { votes = λ x h. k.votes x (in_from (λ y. y.slot) n.acceptor.votes (least_told n) x h); decided = λ e h. k.decided e (in_from (λ y. y.slot) n.learner.decided (least_told n) e h); own = k.own; leader = λ l e. lead n.leader refl l e }) (λ e. k))
    where
      lead : (o : Option Leader) → n.leader ≡ o → (l : Leader) → option_map (forget_proposals (least_told n)) o ≡ Some l → LeaderVals l
      lead None q l h = absurd (cc)
      lead (Some y) q l h =
          let o = k.leader y q in
          let z : forget_proposals (least_told n) y ≡ l = cc in
          let w : LeaderVals (forget_proposals (least_told n) y) = record { promises = o.promises; proposals = λ p j. o.proposals p (in_from (λ p. p.slot) y.proposals (least_told n) p j); offers = o.offers } in
          subst (λ f. LeaderVals f) z w

  vals_take : (n : Node) → NodeVals n → Vals (take n)
  unfolding take
  vals_take n k = vals_also (take_next n n.turns (next_entry n.learner)) forgets (go n.turns (next_entry n.learner) refl) (λ z. vals_forgets (take_next n n.turns (next_entry n.learner)).node z)
    where
      go : (o : Option Turns) (p : Option Entry) → next_entry n.learner ≡ p → Vals (take_next n o p)
      go None p e = vals_quiet n k
      go (Some w) None e = vals_quiet n k
      go (Some w) (Some d) e =
          let dv : P d.value = k.decided d (at_slot-in (λ x. x.slot) n.learner.decided n.learner.slot d (next-entry n.learner d e).1) in
          record {
            node = record { votes = k.votes; decided = k.decided; own = λ v h. k.own v (in_filter (λ v. ltb (last_in (turn w d.value).reading.members n.me) v.id.number) n.own v h); leader = k.leader };
            sent = λ m h. absurd h;
            took = λ x h. elim h [ inl q ↦ subst (λ z. P z.value) q dv | inr b ↦ absurd b ];
          }

  greet_vals : (n : Node) (o : Option Turns) (w : What) (v : Shown) (m : Message) → In m (greet_by n o w v) → WireVals m.wire
  greet_vals n None w v m h = absurd h
  greet_vals n (Some t) Noop v m h = absurd h
  greet_vals n (Some t) (Remove i) v m h = absurd h
  greet_vals n (Some t) (Body b) v m h = absurd h
  greet_vals n (Some t) (Add j) v m h = one_message (message n j.inc (Greet (welcome_of n t v))) tt m h

  greets_vals : (s : Option Shown) (n : Node) (e : Taken) (m : Message) → In m (greets s n e) → WireVals m.wire
  greets_vals None n e m h = absurd h
  greets_vals (Some v) n e m h = cond_both (takes_effect e.kept) (greet_by n n.turns e.value.what v) [] (λ ms. In m ms → WireVals m.wire) (λ q z. greet_vals n n.turns e.value.what v m z) (λ q z. absurd z) h

  vals_takes : (s : Option Shown) (n : Node) → NodeVals n → Vals (takes s n)
  vals_takes s n k =
      let v = vals_take n k in
      record {
        node = v.node;
        sent = λ m h. elim (in_append m (take n).sent (flat_map (greets s (take n).node) (take n).took) h) [
          | inl q ↦ v.sent m q
          | inr q ↦ let r = in_flat (greets s (take n).node) (take n).took m q in greets_vals s (take n).node r.0 m r.2
        ];
        took = v.took;
      }

  vals_welcome : (x : Welcome) (n : Node) → NodeVals n → Vals (hear_welcome x n)
  unfolding hear_welcome
  vals_welcome x n k =
      let a = node_promises n (higher_ballot n.acceptor.promise x.promise) k in
      vals_if (not (is_some n.turns) && (is_in_order x && is_for x n.me n.horizon)) (quiet (welcomed n x)) (quiet n)
      (vals_quiet (welcomed n x) (record { votes = a.votes; decided = a.decided; own = a.own; leader = a.leader })) (vals_quiet n k)

  vals_hear : (j : Inc) (x : Wire) (n : Node) → WireVals x → NodeVals n → Vals (hear j x n)
  unfolding hear VotesOk
  vals_hear j (Prepare b s) n p k = vals_prepare j b s n k
  vals_hear j (Promise b s xs) n p k = vals_promise j b xs n p k
  vals_hear j (Accept b t v) n p k = vals_accept j b t v n p k
  vals_hear j (Accepted b t) n p k = vals_accepted j b t n k
  vals_hear j (Learn t v) n p k = vals_learn t v n p k
  vals_hear j (Offer v) n p k = vals_offer v n p k
  vals_hear j (Greet x) n p k = vals_welcome x n k
  vals_hear j (Ask x) n p k = vals_quiet n k
  vals_hear j (Give x) n p k = vals_quiet n k
  vals_hear j (Alive c) n p k = vals_alive j c n k
  vals_hear j Gone n p k = vals_quiet n k

  abbrev EventVals : PaxosEvent → Type 0
  EventVals (Heard m) = WireVals m.wire
  EventVals (Own v) = P v
  EventVals Campaign = Unit {0}
  EventVals Tick = Unit {0}
  EventVals Propose = Unit {0}

  vals_row : (e : PaxosEvent) (n : Node) → EventVals e → NodeVals n → Vals (row e n)
  vals_row (Heard m) n p k = vals_hear m.from m.wire n p k
  vals_row (Own v) n p k = vals_own v n p k
  vals_row Campaign n p k = vals_campaign n k
  vals_row Tick n p k = vals_tick n k
  vals_row Propose n p k = vals_all n k

  vals_step : (e : PaxosEvent) (n : Node) → EventVals e → NodeVals n → Vals (node_step e n)
  unfolding node_step
  vals_step e n p k = vals_also (row e n) forgets (vals_row e n p k) (λ z. vals_forgets (row e n).node z)

  record WorldVals (at : Nodes) (ws : List Message) (ts : List Took) : Type 0 where
    nodes : (i : Inc) (n : Node) → at i ≡ Some n → NodeVals n
    wire : (m : Message) → In m ws → WireVals m.wire
    took : (x : Took) → In x ts → P x.taken.value

  in_took : (i : Inc) (es : List Taken) → ((e : Taken) → In e es → P e.value) → (x : Took) → In x (took_by i es) → P x.taken.value
  in_took i [] k x h = absurd h
  in_took i (e ∷ es) k x h = elim h [ inl q ↦ subst (λ z. P z.taken.value) q (k e (inl refl)) | inr q ↦ in_took i es (λ d j. k d (inr j)) x q ]

  world_acted : (at : Nodes) (ws ms : List Message) (ts : List Took) (i : Inc) (e : Effect) → WorldVals at ws ts → Vals e → ((m : Message) → In m ms → In m e.sent) → WorldVals (put_node at i e.node) (ws ++ ms) (ts ++ took_by i e.took)
  world_acted at ws ms ts i e v k f = record {
    nodes = λ j y h. elim (put_cases at i e.node j y h) [ inl q ↦ subst (λ z. NodeVals z) q.1 k.node | inr q ↦ v.nodes j y q.1 ];
    wire = λ m h. elim (in_append m ws ms h) [ inl q ↦ v.wire m q | inr q ↦ k.sent m (f m q) ];
    took = λ x h. elim (in_append x ts (took_by i e.took) h) [ inl q ↦ v.took x q | inr q ↦ in_took i e.took k.took x q ];
  }

  made_if : (b : Bool) (v : Value) → ((x : Value) → In x (cond b (v ∷ []) []) → P x) → b ≡ true → P v
  made_if b v p e = p v (rw e (inl refl))

  vals_does : (i : Inc) (a : Act) (n : Node) → ((v : Value) → In v (made_by i a) → P v) → NodeVals n → Vals (does i a n)
  vals_does i (Owns v) n p k = cond_both (inc_eq v.id.origin i) (node_step (Own v) n) (quiet n) (λ e. Vals e) (λ h. vals_step (Own v) n (made_if (inc_eq v.id.origin i) v p h) k) (λ h. vals_quiet n k)
  vals_does i Campaigns n p k = vals_step Campaign n tt k
  vals_does i Ticks n p k = vals_step Tick n tt k
  vals_does i Proposes n p k = vals_step Propose n tt k
  vals_does i (Takes s) n p k = vals_takes s n k

  vals_does_all : (i : Inc) (l : List Act) (n : Node) → ((v : Value) → In v (all_made_by i l) → P v) → NodeVals n → Vals (does_all i l n)
  vals_does_all i [] n p k = vals_quiet n k
  vals_does_all i (a ∷ l) n p k = vals_also (does i a n) (does_all i l) (vals_does i a n (λ v h. p v (in_left v (made_by i a) (all_made_by i l) h)) k) (λ z. vals_does_all i l (does i a n).node (λ v h. p v (in_right v (made_by i a) (all_made_by i l) h)) z)

-- ---- a value made

module _ (P Q : Value → Type 0) (np : (v : Value) → v.what ≡ Noop → P v) (nq : (v : Value) → v.what ≡ Noop → Q v) (more : (v : Value) → P v → Q v) where
  leader_more : (l : Leader) → LeaderVals P np l → LeaderVals Q nq l
  leader_more l k = record { promises = λ p h x j. more x.value (k.promises p h x j); proposals = λ p h. more p.value (k.proposals p h); offers = λ v h. more v (k.offers v h) }

  node_more : (n : Node) → NodeVals P np n → NodeVals Q nq n
  node_more n k = record { votes = λ x h. more x.value (k.votes x h); decided = λ e h. more e.value (k.decided e h); own = λ v h. more v (k.own v h); leader = λ l e. leader_more l (k.leader l e) }

  wire_more : (x : Wire) → WireVals P np x → WireVals Q nq x
  wire_more (Promise b s xs) k = λ x h. more x.value (k x h)
  wire_more (Accept b t v) k = more v k
  wire_more (Learn t v) k = more v k
  wire_more (Offer v) k = elim k [ inl z ↦ inl z | inr z ↦ inr (more v z) ]
  wire_more (Prepare b s) k = tt
  wire_more (Accepted b t) k = tt
  wire_more (Greet x) k = tt
  wire_more (Ask x) k = tt
  wire_more (Give x) k = tt
  wire_more (Alive c) k = tt
  wire_more Gone k = tt

  world_more : (at : Nodes) (ws : List Message) (ts : List Took) → WorldVals P np at ws ts → WorldVals Q nq at ws ts
  world_more at ws ts k = record { nodes = λ i n h. node_more n (k.nodes i n h); wire = λ m h. wire_more m.wire (k.wire m h); took = λ x h. more x.taken.value (k.took x h) }

abbrev Made : List Value → Value → Type 0
Made made v = (v.what ≡ Noop) ⊎ In v made

abbrev noop_made : (made : List Value) (v : Value) → v.what ≡ Noop → Made made v
noop_made made v e = inl e

abbrev MadeIn : World → Type 0
MadeIn w = WorldVals (Made w.made) (noop_made w.made) w.at w.wire w.took

makes_more : (w : World) (vs : List Value) → MadeIn w → MadeIn (makes w vs)
makes_more w vs k = world_more (Made w.made) (Made (w.made ++ vs)) (noop_made w.made) (noop_made (w.made ++ vs)) (λ x h. elim h [ inl e ↦ inl e | inr q ↦ inr (in_left x w.made vs q) ]) w.at w.wire w.took k

made_acts : (arrange : List Message → List Message) → Arranges arrange → (w : World) (i : Inc) (l : List Act) (f : Node → Effect) → MadeIn w
    → ((made : List Value) (n : Node) → NodeVals (Made (w.made ++ made)) (noop_made (w.made ++ made)) n → WorldVals (Made (w.made ++ made)) (noop_made (w.made ++ made)) w.at w.wire w.took → Vals (Made (w.made ++ made)) (noop_made (w.made ++ made)) (f n)) → MadeIn (acts arrange w i l f)
made_acts arrange ok w i l f v step = go (w.at i) refl
  where
    go : (o : Option Node) → w.at i ≡ o → MadeIn (act_on arrange w i l f o)
    go None e = v
    go (Some n) e =
        let made : List Value = all_made_by i l in
        let x : Effect = also (f n) (does_all i l) in
        let u = makes_more w (all_made_by i l) v in
        cond_both (has_inc w.ended i) w (acted arrange (makes w (all_made_by i l)) i x) (λ y. MadeIn y) (λ h. v)
        (λ h. world_acted (Made (w.made ++ all_made_by i l)) (noop_made (w.made ++ all_made_by i l)) w.at w.wire (arrange x.sent) w.took i x u
        (vals_also (Made (w.made ++ all_made_by i l)) (noop_made (w.made ++ all_made_by i l)) (f n) (does_all i l) (step (all_made_by i l) n (u.nodes i n e) u)
        (λ z. vals_does_all (Made (w.made ++ all_made_by i l)) (noop_made (w.made ++ all_made_by i l)) i l (f n).node (λ y q. inr (in_right y w.made (all_made_by i l) q)) z))
        (ok x.sent))

made_starts : (g : Group) (w : World) (j : Joiner) (contact : Inc) → MadeIn w → MadeIn (starts g w j contact)
made_starts g w j contact v = go (is_some (w.at j.inc)) refl
  where
    e : Effect
    e = record { node = joiner g j.inc; sent = start_sent j contact ∷ []; cast = []; took = [] }

    new : WorldVals (Made w.made) (noop_made w.made) (put_node w.at j.inc (joiner g j.inc)) (w.wire ++ start_sent j contact ∷ []) (w.took ++ [])
    new = world_acted (Made w.made) (noop_made w.made) w.at w.wire (start_sent j contact ∷ []) w.took j.inc e v (record {
      node = record { votes = λ x q. absurd q; decided = λ x q. absurd q; own = λ x q. absurd q; leader = λ l q. absurd (cc) };
      sent = λ m q. elim q [ inl z ↦ subst (λ y. WireVals (Made w.made) (noop_made w.made) y.wire) z (inl refl) | inr b ↦ absurd b ];
      took = λ x q. absurd q;
    }) (λ m q. q)

    go : (b : Bool) → is_some (w.at j.inc) ≡ b → MadeIn (starts g w j contact)
    go true q = rw q v
    go false q = rw q (subst (λ z. WorldVals (Made w.made) (noop_made w.made) (put_node w.at j.inc (joiner g j.inc)) (w.wire ++ start_sent j contact ∷ []) z) (append_nil w.took) new)

made_event : (arrange : List Message → List Message) → Arranges arrange → (g : Group) (w : World) (e : Event) → MadeIn w → MadeIn (happens arrange g w e)
made_event arrange ok g w (Hears k l) v = go (slice_get w.wire k) refl
  where
    go : (o : Option Message) → slice_get w.wire k ≡ o → MadeIn (hears arrange w l o)
    go None e = v
    go (Some m) e = made_acts arrange ok w m.to l (node_step (Heard m)) v (λ made n k' u. vals_step (Made (w.made ++ made)) (noop_made (w.made ++ made)) (Heard m) n (u.wire m (get-in w.wire k m e)) k')
made_event arrange ok g w (Does i l) v = made_acts arrange ok w i l quiet v (λ made n k u. vals_quiet (Made (w.made ++ made)) (noop_made (w.made ++ made)) n k)
made_event arrange ok g w (Starts j contact) v = made_starts g w j contact v
made_event arrange ok g w (Ends i) v = v

made_run : (arrange : List Message → List Message) → Arranges arrange → (g : Group) (es : List Event) (w : World) → MadeIn w → MadeIn (run_from arrange g es w)
made_run arrange ok g [] w v = v
made_run arrange ok g (e ∷ es) w v = made_run arrange ok g es (happens arrange g w e) (made_event arrange ok g w e v)

made_start : (g : Group) → MadeIn (start g)
made_start g = record {
  nodes = λ i n h. elim (cases_Bool (has_inc g.founders i)) [
    | inl e ↦ let k : Some (founder g i) ≡ Some n = rw e at h in let z : founder g i ≡ n = cc in subst (λ y. NodeVals (Made []) (noop_made []) y) z (record { votes = λ x q. absurd q; decided = λ x q. absurd q; own = λ x q. absurd q; leader = λ l q. lead (inc_eq i (first_inc g.founders)) l q })
    | inr e ↦ let k : None ≡ Some n = rw e at h in absurd (cc)
  ];
  wire = λ m h. absurd h;
  took = λ x h. absurd h;
}
  where
    lead : (u : Bool) (l : Leader) → cond u (Some (new_leader (first_ballot g) [])) None ≡ Some l → LeaderVals (Made []) (noop_made []) l
    lead false l e = absurd (cc)
    lead true l e = let z : new_leader (first_ballot g) [] ≡ l = cc in subst (λ y. LeaderVals (Made []) (noop_made []) y) z (record { promises = λ p h. absurd h; proposals = λ p h. absurd h; offers = λ v h. absurd h })

pub made_before : InEveryRun MadeBefore
unfolding run
made_before arrange ok g es far x h = (made_run arrange ok g es (start g) (made_start g)).took x h
