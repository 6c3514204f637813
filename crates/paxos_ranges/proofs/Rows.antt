-- Each row of a node keeps it within the ranges, and sends what can be spelt.
use Rattle.std.proofs.Common.{◌≡◌, ◌⊎◌, inl, inr, ℕ, zero, suc, ◌+◌, ◌-◌, ◌^◌, ◌≤◌, ◌<◌, Bool, true, false, not, cond, ◌||◌, ◌&&◌, Option, Some, None, List, [], ◌∷◌, ◌++◌, ltb, leb, eqb, refl, sym, ap, subst, ◌∙◌, arith, length}
use Rattle.std.specs.Prelude.{is_some, map, filter, flat_map, fold, option_map}
use Rattle.std.proofs.lemmas.Bool.{cond_both, cases_Bool, or_parts, eqb-false, ltb-true, ltb-false, false≢true}
use Rattle.gr_ids.specs.Names.{ballot_eq, ballot_lt, has_inc, inc_eq}
use Rattle.gr_ids.specs.declared.names.Inc.{Inc}
use Rattle.gr_ids.specs.declared.names.Ballot.{Ballot}
use Rattle.name_forms.specs.Incs.{IsInc}
use Rattle.name_forms.specs.Ballots.{IsBallot, last_round}
use Rattle.slot_values.specs.Slots.{IsSlot}
use Rattle.slot_values.specs.Spelling.{IsValue, last_u32}
use Rattle.slot_values.specs.Log.{Group, Turns, first_turns, turn, last_in, forget_configs}
use Rattle.slot_values.specs.Turns.{resumed}
use Rattle.slot_values.specs.declared.value.Value.{Value}
use Rattle.slot_values.specs.declared.value.Vote.{Vote}
use Rattle.paxos_forms.specs.Messages.{IsMessage, IsWire, IsHeld, IsNextSlot}
use Rattle.paxos_forms.specs.Welcomes.{IsWelcome}
use Rattle.paxos_forms.specs.declared.message.Message.{Message}
use Rattle.paxos_forms.specs.declared.message.Wire.{Wire}
use Rattle.paxos_forms.specs.declared.message.Wire.TheVariants.{Prepare, Promise, Accept, Accepted, Learn, Offer, Ask, Give, Alive, Gone}
use Rattle.paxos_forms.specs.declared.message.Wire.TheVariants.{Welcome as Greet}
use Rattle.paxos_forms.specs.declared.welcome.Welcome.{Welcome}
use Rattle.node_rules.specs.declared.event.PaxosEvent.{PaxosEvent}
use Rattle.node_rules.specs.declared.event.PaxosEvent.TheVariants.{Heard, Own, Campaign, Tick, Propose}
use Rattle.node_rules.specs.Acceptor.{promising, votes_from}
use Rattle.node_rules.specs.Known.{members_by, ever_by, config_here, last_by}
use Rattle.node_rules.specs.Leader.{Promised, Leader, Proposal, Choice, new_leader, proposal_at, keep_promise, take_offer, free_slot, choice, proposing, accepted_by, count_accepted, has_majority, unpromised, unaccepted, forget_proposals}
use Rattle.node_rules.specs.Learner.{Learner, is_decided, begin_at, next_entry}
use Rattle.node_rules.specs.Learning.{learns, hear_learn, counts, lead_accepted, hear_accepted, tells, learns_from, hear_alive}
use Rattle.node_rules.specs.Lists.{In, union, others}
use Rattle.node_rules.specs.Node.{Node, Effect, quiet, sends, also, message, to_others, leads, first_inc, first_ballot, founder, joiner}
use Rattle.node_rules.specs.Proposing.{decided_above, proposes, propose_choice, lead_propose, propose_one, propose_times, propose_all, lead_promise, hear_promise, offers_out, offers, own_value, lead_offer, hear_offer, reach, audience, next_ballot, campaign}
use Rattle.node_rules.specs.Slots.{Entry, from_slot}
use Rattle.node_rules.specs.Step.{hear, row, node_step}
use Rattle.node_rules.specs.Taking.{least_told, forget, forgets, take_next, take}
use Rattle.node_rules.specs.Ticks.{prepares_again, accepts_again, lead_tick, tick}
use Rattle.node_rules.specs.Voting.{promises, votes, gone_to, hear_prepare, hear_accept}
use Rattle.node_rules.specs.Welcoming.{is_in_order, is_for, higher_ballot, welcomed, told_in, hear_welcome}
use Rattle.order_laws.proofs.Lists.{in_append, in_push, in_from, in_map, in_filter, in_flat, at_slot-in}
use Rattle.order_laws.proofs.Acts.{still_led}
use Rattle.order_laws.proofs.Leads.{advanced_up}
use Rattle.order_laws.proofs.Takes.{next-entry}
use Rattle.paxos_ranges.specs.Ranges.{AreIncs, AreValues, IsPromise, KnowsIncs, LeadsInRange, IsInRange, IsGiven}
use Rattle.paxos_ranges.proofs.Chains.{chain_values, chain_put, chain_from, from_shorter}
use Rattle.paxos_ranges.proofs.Incs.{union_incs, turn_incs, first_incs, forget_incs, welcome_incs, Knows, members_incs, config_incs, unpromised_incs, none_unpromised}
use Rattle.paxos_ranges.proofs.Known.{Learnt, advances, learns_value, learnt_up, keeps_promise, takes_offers, puts_proposal, free_up, IsChoice, chooses}

-- A message can be spelt under the condition C.
module _ (C : Type 0) where
  abbrev IsSpelt : Message → Type 0
  IsSpelt m = C → IsMessage m × IsHeld m.wire

  record Fits (e : Effect) : Type 0 where
    node : IsInRange e.node
    sent : (m : Message) → In m e.sent → IsSpelt m

  -- ---- acts, one after another

  fits_quiet : (n : Node) → IsInRange n → Fits (quiet n)
  fits_quiet n k = record { node = k; sent = λ m h. absurd h }

  fits_sends : (n : Node) (ms : List Message) → IsInRange n → ((m : Message) → In m ms → IsSpelt m) → Fits (sends n ms)
  fits_sends n ms k s = record { node = k; sent = s }

  fits_also : (e : Effect) (f : Node → Effect) → Fits e → (IsInRange e.node → Fits (f e.node)) → Fits (also e f)
  fits_also e f k l =
      let r = l k.node in
      record { node = r.node; sent = λ m h. elim (in_append m e.sent (f e.node).sent h) [ inl q ↦ k.sent m q | inr q ↦ r.sent m q ] }

  fits_if : (b : Bool) (x y : Effect) → (b ≡ true → Fits x) → (b ≡ false → Fits y) → Fits (cond b x y)
  fits_if b x y k l = cond_both b x y (λ e. Fits e) k l

  -- ---- messages

  spelt : (n : Node) (i : Inc) (y : Wire) → IsInRange n → IsInc i → IsWire y × IsHeld y → IsSpelt (message n i y)
  spelt n i y k j w = λ c. (record { from = k.me; to = j; wire = w.0 }, w.1)

  one_message : (x : Message) → IsSpelt x → (m : Message) → In m (x ∷ []) → IsSpelt m
  one_message x k m h = elim h [ inl e ↦ subst (λ z. IsSpelt z) e k | inr b ↦ absurd b ]

  to_others_spelt : (n : Node) (is : List Inc) (y : Wire) → IsInRange n → ((i : Inc) → In i is → IsInc i × IsWire y × IsHeld y) → (m : Message) → In m (to_others n is y) → IsSpelt m
  to_others_spelt n is y k w m h =
      let r = in_map (λ i. message n i y) (others n.me is) m h in
      let j = w r.0 (in_filter (λ i. not (inc_eq n.me i)) is r.0 r.1) in
      subst (λ z. IsSpelt z) r.2 (spelt n r.0 y k j.0 (j.1, j.2))

  gone_spelt : (n : Node) (i : Inc) → IsInRange n → IsInc i → (m : Message) → In m (gone_to n i) → IsSpelt m
  gone_spelt n i k j = cond_both (has_inc (ever_by n.turns) i && not (has_inc (members_by n.turns) i)) (message n i Gone ∷ []) [] (λ ms. (m : Message) → In m ms → IsSpelt m) (λ e. one_message (message n i Gone) (spelt n i Gone k j (tt, tt))) (λ e m h. absurd h)

  knows : (n : Node) → IsInRange n → Knows n.turns
  knows n k w e = (k.turns w e).1

  -- ---- parts of a node put anew

  put_votes : (n : Node) (x : Vote) → IsSlot x.slot → IsBallot x.ballot → IsValue x.value → IsInRange n → IsInRange (votes n x)
  put_votes n x s b v k = record {
    me = k.me;
    promise = k.promise;
    votes = chain_put n.acceptor.votes None x k.votes (record { slot_above = s.0; slot_below = s.1; ballot = b; value = v });
    decided = k.decided;
    next = k.next;
    turns = k.turns;
    leader = k.leader;
    own = k.own;
  }

  put_promise : (n : Node) (b : Ballot) → IsPromise b → IsInRange n → IsInRange (promises n b)
  put_promise n b p k = record { me = k.me; promise = p; votes = k.votes; decided = k.decided; next = k.next; turns = k.turns; leader = λ l e. k.leader l (still_led b n.leader l e).0; own = k.own }

  put_leader : (n : Node) (l : Leader) → LeadsInRange l → IsInRange n → IsInRange (leads n l)
  put_leader n l o k = record { me = k.me; promise = k.promise; votes = k.votes; decided = k.decided; next = k.next; turns = k.turns; leader = λ m e. let q : l ≡ m = cc in subst (λ z. LeadsInRange z) q o; own = k.own }

  put_learnt : (n : Node) (t : ℕ) (v : Value) → IsSlot t → IsValue v → IsInRange n → IsInRange (learns n t v)
  put_learnt n t v s p k =
      let d = learns_value n.learner t v s p (record { decided = k.decided; next = k.next }) in
      let up = learnt_up n.learner t v in
      record { me = k.me; promise = k.promise; votes = k.votes; decided = d.decided; next = d.next; turns = λ w e. (omega (arith, up, (k.turns w e).0), (k.turns w e).1); leader = k.leader; own = k.own }

  -- ---- Prepare and Accept

  fits_prepare : (j : Inc) (b : Ballot) (s : ℕ) (n : Node) → (C → length n.acceptor.votes ≤ last_u32) → IsInc j → IsBallot b → IsNextSlot s → IsInRange n → Fits (hear_prepare j b s n)
  unfolding hear_prepare
  fits_prepare j b s n few i p t k =
      let msg : Message = message n j (Promise b s (votes_from n.acceptor s)) in
      fits_if (ltb s n.acceptor.low) _ _ (λ e. fits_sends n (gone_to n j) k (gone_spelt n j k i))
      (λ e. fits_if (ballot_lt b n.acceptor.promise) _ _ (λ f. fits_quiet n k)
      (λ f. fits_sends (promises n b) (msg ∷ []) (put_promise n b (inr p) k)
      (one_message msg (λ c. (record { from = k.me; to = i; wire = (p, t, chain_from n.acceptor.votes s None None (omega arith) k.votes, from_shorter n.acceptor.votes s (few c)) }, tt)))))

  fits_accept : (j : Inc) (b : Ballot) (t : ℕ) (v : Value) (n : Node) → IsInc j → IsBallot b → IsSlot t → IsValue v → IsInRange n → Fits (hear_accept j b t v n)
  unfolding hear_accept
  fits_accept j b t v n i p s q k =
      let x : Vote = record { slot = t; ballot = b; value = v } in
      let msg : Message = message n j (Accepted b t) in
      fits_if (ltb t n.acceptor.low) _ _ (λ e. fits_sends n (gone_to n j) k (gone_spelt n j k i))
      (λ e. fits_if (ballot_lt b n.acceptor.promise) _ _ (λ f. fits_quiet n k)
      (λ f. record { node = put_votes (promises n b) x s p q (put_promise n b (inr p) k); sent = one_message msg (spelt n j (Accepted b t) k i ((p, s), tt)) }))

  -- ---- Learn and Accepted

  fits_accepted : (j : Inc) (b : Ballot) (t : ℕ) (n : Node) → IsInRange n → Fits (hear_accepted j b t n)
  unfolding hear_accepted
  fits_accepted j b t n k = go n.leader refl
    where
      found : (l : Leader) → n.leader ≡ Some l → (o : Option Proposal) → proposal_at l t ≡ o → Fits (counts j n l o)
      found l e None f = fits_quiet n k
      found l e (Some p) f =
          let o = k.leader l e in
          let pv = o.proposals p (at_slot-in (λ x. x.slot) l.proposals t p f) in
          let q : Proposal = accepted_by p j in
          let l2 : Leader = count_accepted l q in
          let m : Node = leads n l2 in
          let mk : IsInRange m = put_leader n l2 (record { ballot = o.ballot; reported = o.reported; proposals = puts_proposal l q pv o; offers = o.offers }) k in
          let to : List Inc = union (config_here m.turns p.slot) (members_by m.turns) in
          let ok : AreIncs to = union_incs (config_here m.turns p.slot) (members_by m.turns) (config_incs m.turns (knows m mk) p.slot) (members_incs m.turns (knows m mk)) in
          fits_if (is_decided n.learner p.slot) _ _ (λ e. fits_quiet n k)
          (λ e. fits_if (has_majority n.turns q) _ _
          (λ e. fits_sends (learns m p.slot p.value) (to_others m to (Learn p.slot p.value)) (put_learnt m p.slot p.value pv.0 pv.1 mk) (to_others_spelt m to (Learn p.slot p.value) mk (λ i h. (ok i h, (pv.0, pv.1), tt))))
          (λ e. fits_quiet m mk))

      go : (o : Option Leader) → n.leader ≡ o → Fits (lead_accepted j b t n o)
      go None e = fits_quiet n k
      go (Some l) e = fits_if (ballot_eq l.ballot b) _ _ (λ f. found l e (proposal_at l t) refl) (λ f. fits_quiet n k)

  -- ---- proposals

  fits_proposes : (n : Node) (l : Leader) (c : Choice) → IsChoice c → LeadsInRange l → IsInRange n → Fits (proposes n l c)
  fits_proposes n l c h o k =
      let q : Proposal = record { slot = c.slot; value = c.value; accepted = [] } in
      let x : Vote = record { slot = c.slot; ballot = l.ballot; value = c.value } in
      let l2 : Leader = proposing l c in
      let m : Node = leads (votes n x) l2 in
      let y : Wire = Accept l.ballot c.slot c.value in
      let e : Effect = record { node = m; sent = to_others n (config_here n.turns c.slot) y; cast = x ∷ []; took = [] } in
      let mk : IsInRange m = put_leader (votes n x) l2 (record { ballot = o.ballot; reported = o.reported; proposals = puts_proposal l q (h.slot, h.value) o; offers = h.offers }) (put_votes n x h.slot o.ballot h.value k) in
      fits_also e (hear_accepted n.me l.ballot c.slot) (record { node = mk; sent = to_others_spelt n (config_here n.turns c.slot) y k (λ i z. (config_incs n.turns (knows n k) c.slot i z, (o.ballot, h.slot, h.value), tt)) }) (λ z. fits_accepted n.me l.ballot c.slot m z)

  fits_propose_one : (n : Node) → IsInRange n → Fits (propose_one n)
  unfolding propose_one
  fits_propose_one n k = go n.leader refl
    where
      chosen : (l : Leader) → LeadsInRange l → (o : Option Choice) → choice (is_decided n.learner) (decided_above n.learner) n.turns l n.horizon n.learner.next ≡ o → Fits (propose_choice n l o)
      chosen l o None e = fits_quiet n k
      chosen l o (Some c) e = fits_proposes n l c (chooses (decided_above n.learner) n.turns l o (free_slot (is_decided n.learner) l n.horizon n.learner.next) (λ t f w g. let a = free_up (is_decided n.learner) l n.horizon n.learner.next t f in omega (arith, a, (k.turns w g).0)) c e) o k

      go : (o : Option Leader) → n.leader ≡ o → Fits (lead_propose n o)
      go None e = fits_quiet n k
      go (Some l) e = chosen l (k.leader l e) (choice (is_decided n.learner) (decided_above n.learner) n.turns l n.horizon n.learner.next) refl

  fits_times : (c : ℕ) (n : Node) → IsInRange n → Fits (propose_times c n)
  fits_times zero n k = fits_quiet n k
  fits_times (suc c) n k = fits_also (propose_one n) (propose_times c) (fits_propose_one n k) (λ z. fits_times c (propose_one n).node z)

  -- a new state of the leader, and then proposals
  fits_leads : (n : Node) (l : Leader) → LeadsInRange l → IsInRange n → Fits (also (quiet (leads n l)) propose_all)
  fits_leads n l o k = fits_also (quiet (leads n l)) propose_all (fits_quiet (leads n l) (put_leader n l o k)) (λ z. fits_times n.horizon (leads n l) z)

  fits_promise : (j : Inc) (b : Ballot) (xs : List Vote) (n : Node) → ((x : Vote) → In x xs → IsValue x.value) → IsInRange n → Fits (hear_promise j b xs n)
  unfolding hear_promise
  fits_promise j b xs n p k = go n.leader refl
    where
      go : (o : Option Leader) → n.leader ≡ o → Fits (lead_promise j b xs n o)
      go None e = fits_quiet n k
      go (Some l) e = fits_if (ballot_eq l.ballot b) _ _ (λ f. fits_leads n (keep_promise l j xs) (keeps_promise l j xs p (k.leader l e)) k) (λ f. fits_quiet n k)

  -- ---- offers

  offered_to : (b : Ballot) → IsPromise b → eqb b.round 0 ≡ false → IsInc b.inc
  offered_to b p e = elim p [ inl z ↦ absurd (eqb-false b.round 0 e z) | inr q ↦ q.inc ]

  out_spelt : (n : Node) (vs : List Value) → AreValues vs → IsInRange n → (m : Message) → In m (offers_out n vs) → IsSpelt m
  out_spelt n vs p k =
      cond_both (eqb n.acceptor.promise.round 0 || inc_eq n.acceptor.promise.inc n.me) [] (map (λ v. message n n.acceptor.promise.inc (Offer v)) vs) (λ ms. (m : Message) → In m ms → IsSpelt m) (λ e m h. absurd h)
      (λ e m h.
      let r = in_map (λ v. message n n.acceptor.promise.inc (Offer v)) vs m h in
      let j = offered_to n.acceptor.promise k.promise (or_parts (eqb n.acceptor.promise.round 0) (inc_eq n.acceptor.promise.inc n.me) e).0 in
      subst (λ z. IsSpelt z) r.2 (spelt n n.acceptor.promise.inc (Offer r.0) k j (p r.0 r.1, tt)))

  fits_offers : (vs : List Value) (n : Node) (o : Option Leader) → n.leader ≡ o → AreValues vs → IsInRange n → Fits (offers vs n o)
  fits_offers vs n None e p k = fits_sends n (offers_out n vs) k (out_spelt n vs p k)
  fits_offers vs n (Some l) e p k = fits_leads n (fold (take_offer (is_decided n.learner) (last_by n.turns)) l vs) (takes_offers (is_decided n.learner) (last_by n.turns) vs l p (k.leader l e)) k

  one_value : (v : Value) → IsValue v → AreValues (v ∷ [])
  one_value v p x h = elim h [ inl e ↦ subst (λ z. IsValue z) e p | inr b ↦ absurd b ]

  fits_own : (v : Value) (n : Node) → IsValue v → IsInRange n → Fits (own_value v n)
  unfolding own_value
  fits_own v n p k =
      fits_offers (v ∷ []) (record n { own = n.own ++ v ∷ [] }) n.leader refl (one_value v p)
      (record { me = k.me; promise = k.promise; votes = k.votes; decided = k.decided; next = k.next; turns = k.turns; leader = k.leader; own = λ x h. elim (in_push x n.own v h) [ inl q ↦ k.own x q | inr e ↦ subst (λ z. IsValue z) e p ] })

  fits_offer : (v : Value) (n : Node) → IsValue v → IsInRange n → Fits (hear_offer v n)
  unfolding hear_offer
  fits_offer v n p k = fits_if (eqb v.id.number 0) _ _ (λ e. fits_quiet n k) (λ e. go n.leader refl)
    where
      go : (o : Option Leader) → n.leader ≡ o → Fits (lead_offer v n o)
      go None e = fits_quiet n k
      go (Some l) e = fits_leads n (fold (take_offer (is_decided n.learner) (last_by n.turns)) l (v ∷ [])) (takes_offers (is_decided n.learner) (last_by n.turns) (v ∷ []) l (one_value v p) (k.leader l e)) k

  -- ---- the campaign

  reach_incs : (n : Node) → Knows n.turns → (c t : ℕ) → AreIncs (reach n c t)
  reach_incs n k zero t i h = absurd h
  reach_incs n k (suc c) t i h = union_incs (config_here n.turns t) (reach n c (t + 1)) (config_incs n.turns k t) (reach_incs n k c (t + 1)) i h

  known : (o : Option Turns) → is_some o ≡ true → (w : Turns) × (o ≡ Some w)
  known None e = absurd (false≢true e)
  known (Some w) e = (w, refl)

  fits_campaign : (n : Node) → IsInRange n → Fits (campaign n)
  unfolding campaign
  fits_campaign n k = fits_if (eqb n.acceptor.promise.round (2 ^ 32 - 1) || not (is_some n.turns)) _ _ (λ e. fits_quiet n k)
      (λ e. let p = or_parts (eqb n.acceptor.promise.round (2 ^ 32 - 1)) (not (is_some n.turns)) e in go (eqb-false n.acceptor.promise.round (2 ^ 32 - 1) p.0) (cases_Bool (is_some n.turns)) p.1)
    where
      round : IsPromise n.acceptor.promise → (n.acceptor.promise.round ≡ last_round → ⊥) → n.acceptor.promise.round + 1 ≤ last_round
      round (inl z) f = omega (arith, z)
      round (inr q) f = elim (cases_Bool (ltb n.acceptor.promise.round last_round)) [
        | inl h ↦ (let a = ltb-true n.acceptor.promise.round last_round h in omega (arith, a))
        | inr h ↦ absurd (f (let a = ltb-false n.acceptor.promise.round last_round h in omega (arith, a, q.round_below)))
      ]

      go : (n.acceptor.promise.round ≡ last_round → ⊥) → (is_some n.turns ≡ true) ⊎ (is_some n.turns ≡ false) → not (is_some n.turns) ≡ false
          → Fits (sends (record n { acceptor = promising n.acceptor (next_ballot n); leader = Some (new_leader (next_ballot n) (record { inc = n.me; votes = votes_from n.acceptor n.learner.next } ∷ [])) }) (to_others n (audience n) (Prepare (next_ballot n) n.learner.next)))
      go f (inr a) b = absurd (false≢true (sym b ∙ ap not a))
      go f (inl a) b =
          let w = known n.turns a in
          let begun = (k.turns w.0 w.1).0 in
          let up = round k.promise f in
          let ballot : IsBallot (next_ballot n) = record { round_above = omega arith; round_below = up; inc = k.me } in
          let own : Promised = record { inc = n.me; votes = votes_from n.acceptor n.learner.next } in
          let l : Leader = new_leader (next_ballot n) (own ∷ []) in
          let m : Node = record n { acceptor = promising n.acceptor (next_ballot n); leader = Some l } in
          let lk : LeadsInRange l = record {
            ballot = ballot;
            reported = λ p h. elim h [ inl e ↦ subst (λ z. (x : Vote) → In x z.votes → IsValue x.value) e (λ x q. chain_values n.acceptor.votes None k.votes x (in_from (λ y. y.slot) n.acceptor.votes n.learner.next x q)) | inr b ↦ absurd b ];
            proposals = λ p h. absurd h;
            offers = λ v h. absurd h;
          } in
          let mk : IsInRange m = record { me = k.me; promise = inr ballot; votes = k.votes; decided = k.decided; next = k.next; turns = k.turns; leader = λ y e. let q : l ≡ y = cc in subst (λ z. LeadsInRange z) q lk; own = k.own } in
          let ok : AreIncs (audience n) = union_incs (members_by n.turns) (reach n n.horizon n.learner.next) (members_incs n.turns (knows n k)) (reach_incs n (knows n k) n.horizon n.learner.next) in
          fits_sends m (to_others n (audience n) (Prepare (next_ballot n) n.learner.next)) mk (to_others_spelt n (audience n) (Prepare (next_ballot n) n.learner.next) k (λ i h. (ok i h, (ballot, (begun, k.next)), tt)))

  -- ---- Alive, and the tick

  learns_spelt : (j : Inc) (n : Node) → IsInc j → IsInRange n → (c : ℕ) (m : Message) → In m (learns_from n j c) → IsSpelt m
  learns_spelt j n i k c m h =
      let test = (λ (e : Entry). leb c e.slot && (ltb e.slot (c + 10) && ltb e.slot n.learner.next)) in
      let r = in_map (λ (e : Entry). message n j (Learn e.slot e.value)) (filter test n.learner.decided) m h in
      let d = k.decided r.0 (in_filter test n.learner.decided r.0 r.1) in
      subst (λ z. IsSpelt z) r.2 (spelt n j (Learn (r.0).slot (r.0).value) k i ((d.0, d.1), tt))

  fits_alive : (j : Inc) (c : ℕ) (n : Node) → IsInc j → IsInRange n → Fits (hear_alive j c n)
  unfolding hear_alive
  fits_alive j c n i k =
      let m : Node = record n { told = tells n.told j c } in
      fits_if (has_inc (members_by n.turns) j) _ _
      (λ e. fits_sends m (learns_from n j c) (record { me = k.me; promise = k.promise; votes = k.votes; decided = k.decided; next = k.next; turns = k.turns; leader = k.leader; own = k.own }) (learns_spelt j n i k c)) (λ e. fits_sends n (gone_to n j) k (gone_spelt n j k i))

  accepts_spelt : (n : Node) (l : Leader) → IsInRange n → LeadsInRange l → (m : Message) → In m (flat_map (accepts_again n l) l.proposals) → IsSpelt m
  accepts_spelt n l k o m h =
      let r = in_flat (accepts_again n l) l.proposals m h in
      let p = o.proposals r.0 r.1 in
      let y : Wire = Accept l.ballot (r.0).slot (r.0).value in
      cond_both (is_decided n.learner (r.0).slot) [] (to_others n (unaccepted n.turns r.0) y) (λ ms. In m ms → IsSpelt m) (λ e q. absurd q)
      (λ e q. to_others_spelt n (unaccepted n.turns r.0) y k (λ i z. (config_incs n.turns (knows n k) (r.0).slot i (in_filter (λ i. not (has_inc (r.0).accepted i)) (config_here n.turns (r.0).slot) i z), (o.ballot, p.0, p.1), tt)) m q) r.2

  prepares_spelt : (n : Node) (l : Leader) → IsInRange n → LeadsInRange l → (m : Message) → In m (prepares_again n l) → IsSpelt m
  prepares_spelt n l k o =
      let y : Wire = Prepare l.ballot n.learner.next in
      let to : List Inc = unpromised n.turns l n.horizon n.learner.next in
      cond_both (eqb l.ballot.round 1) [] (to_others n to y) (λ ms. (m : Message) → In m ms → IsSpelt m) (λ e m h. absurd h)
      (λ e m h. to_others_spelt n to y k (λ i z. (unpromised_incs n.turns (knows n k) l n.horizon n.learner.next i z, (o.ballot, (begun n.turns refl i z, k.next)), tt)) m h)
    where
      begun : (w : Option Turns) → n.turns ≡ w → (i : Inc) → In i (unpromised n.turns l n.horizon n.learner.next) → 1 ≤ n.learner.next
      begun None e i h = absurd (none_unpromised l n.horizon n.learner.next i (subst (λ w. In i (unpromised w l n.horizon n.learner.next)) e h))
      begun (Some w) e i h = (k.turns w e).0

  tick_spelt : (n : Node) → IsInRange n → (o : Option Leader) → n.leader ≡ o → (m : Message) → In m (lead_tick n o) → IsSpelt m
  tick_spelt n k None e m h = absurd h
  tick_spelt n k (Some l) e m h = elim (in_append m (prepares_again n l) (flat_map (accepts_again n l) l.proposals) h) [
    | inl q ↦ prepares_spelt n l k (k.leader l e) m q
    | inr q ↦ accepts_spelt n l k (k.leader l e) m q
  ]

  alive_spelt : (n : Node) → IsInRange n → (m : Message) → In m (to_others n (members_by n.turns) (Alive n.learner.next)) → IsSpelt m
  alive_spelt n k = to_others_spelt n (members_by n.turns) (Alive n.learner.next) k (λ i h. (members_incs n.turns (knows n k) i h, (begun n.turns refl i h, k.next), tt))
    where
      begun : (w : Option Turns) → n.turns ≡ w → (i : Inc) → In i (members_by n.turns) → 1 ≤ n.learner.next
      begun None e i h = let q : In i [] = subst (λ w. In i (members_by w)) e h in absurd q
      begun (Some w) e i h = (k.turns w e).0

  fits_tick : (n : Node) → IsInRange n → Fits (tick n)
  unfolding tick
  fits_tick n k =
      let alive : List Message = to_others n (members_by n.turns) (Alive n.learner.next) in
      let m : Node = (offers n.own n n.leader).node in
      fits_also (sends n alive) (λ m. also (offers m.own m m.leader) (λ l. sends l (lead_tick l l.leader))) (fits_sends n alive k (alive_spelt n k))
      (λ z. fits_also (offers n.own n n.leader) (λ l. sends l (lead_tick l l.leader)) (fits_offers n.own n n.leader refl k.own k) (λ y. fits_sends m (lead_tick m m.leader) y (tick_spelt m y m.leader refl)))

  -- ---- forgetting, and the taking of a slot

  fits_forgets : (n : Node) → IsInRange n → Fits (forgets n)
  unfolding forget
  fits_forgets n k = cond_both (ltb n.acceptor.low (least_told n)) _ n (λ m. Fits (quiet m)) (λ e. fits_quiet _ all) (λ e. fits_quiet n k)
    where
      c : ℕ
      c = least_told n

      lead : (o : Option Leader) → n.leader ≡ o → (l : Leader) → option_map (forget_proposals c) o ≡ Some l → LeadsInRange l
      lead None q l h = absurd (cc h)
      lead (Some y) q l h =
          let o = k.leader y q in
          let z : forget_proposals c y ≡ l = cc in
          let w : LeadsInRange (forget_proposals c y) = record { ballot = o.ballot; reported = o.reported; proposals = λ p j. o.proposals p (in_from (λ p. p.slot) y.proposals c p j); offers = o.offers } in
          subst (λ f. LeadsInRange f) z w

      log : (o : Option Turns) → n.turns ≡ o → (w : Turns) → option_map (forget_configs c) o ≡ Some w → (1 ≤ n.learner.next) × KnowsIncs w
      log None q w h = absurd (cc h)
      log (Some y) q w h = let z : forget_configs c y ≡ w = cc in ((k.turns y q).0, subst (λ f. KnowsIncs f) z (forget_incs c y (k.turns y q).1))

      all : IsInRange (record n { acceptor = record n.acceptor { votes = votes_from n.acceptor c; low = c }; learner = record n.learner { decided = from_slot (λ e. e.slot) n.learner.decided c }; leader = option_map (forget_proposals c) n.leader; turns = option_map (forget_configs c) n.turns })
      all = record {
        me = k.me;
        promise = k.promise;
        votes = chain_from n.acceptor.votes c None None (omega arith) k.votes;
        decided = λ e h. k.decided e (in_from (λ y. y.slot) n.learner.decided c e h);
        next = k.next;
        turns = λ w h. log n.turns refl w h;
        leader = λ l h. lead n.leader refl l h;
        own = k.own;
      }

  fits_take : (n : Node) → IsInRange n → Fits (take n)
  unfolding take
  fits_take n k = fits_also (take_next n n.turns (next_entry n.learner)) forgets (go n.turns refl (next_entry n.learner) refl) (λ z. fits_forgets (take_next n n.turns (next_entry n.learner)).node z)
    where
      go : (o : Option Turns) → n.turns ≡ o → (p : Option Entry) → next_entry n.learner ≡ p → Fits (take_next n o p)
      go None q p e = fits_quiet n k
      go (Some w) q None e = fits_quiet n k
      go (Some w) q (Some d) e =
          let v = (k.decided d (at_slot-in (λ x. x.slot) n.learner.decided n.learner.slot d (next-entry n.learner d e).1)).1 in
          record {
            node = record {
              me = k.me;
              promise = k.promise;
              votes = k.votes;
              decided = k.decided;
              next = k.next;
              turns = λ x h. let z : turn w d.value ≡ x = cc in ((k.turns w q).0, subst (λ y. KnowsIncs y) z (turn_incs w d.value v (k.turns w q).1));
              leader = k.leader;
              own = λ x h. k.own x (in_filter (λ y. ltb (last_in (turn w d.value).reading.members n.me) y.id.number) n.own x h);
            };
            sent = λ m h. absurd h;
          }

  -- ---- the Welcome

  fits_welcome : (x : Welcome) (n : Node) → IsWelcome x → IsInRange n → Fits (hear_welcome x n)
  unfolding hear_welcome
  fits_welcome x n q k = fits_if (not (is_some n.turns) && (is_in_order x && is_for x n.me n.horizon)) _ _ (λ e. fits_quiet (welcomed n x) all) (λ e. fits_quiet n k)
    where
      d : Learner
      d = record n.learner { slot = x.slot + 1; next = x.slot + 1 }

      ok : Learnt (begin_at n.learner (x.slot + 1))
      ok = advances d (record { decided = k.decided; next = omega (arith, q.slot_below) })

      promise : IsPromise (higher_ballot n.acceptor.promise x.promise)
      promise = cond_both (ballot_lt n.acceptor.promise x.promise) x.promise n.acceptor.promise (λ b. IsPromise b) (λ e. inr q.promise) (λ e. k.promise)

      all : IsInRange (welcomed n x)
      all = record {
        me = k.me;
        promise = promise;
        votes = k.votes;
        decided = ok.decided;
        next = ok.next;
        turns = λ w h. let z : resumed (told_in x) ≡ w = cc in (let up = advanced_up d in omega (arith, up), subst (λ y. KnowsIncs y) z (welcome_incs x q));
        leader = λ l e. k.leader l (still_led (higher_ballot n.acceptor.promise x.promise) n.leader l e).0;
        own = k.own;
      }

  -- ---- a step

  fits_hear : (j : Inc) (x : Wire) (n : Node) → (C → length n.acceptor.votes ≤ last_u32) → IsInc j → IsWire x → IsInRange n → Fits (hear j x n)
  unfolding hear hear_learn
  fits_hear j (Prepare b s) n few i p k = fits_prepare j b s n few i p.0 p.1 k
  fits_hear j (Promise b s xs) n few i p k = fits_promise j b xs n (chain_values xs None p.2) k
  fits_hear j (Accept b t v) n few i p k = fits_accept j b t v n i p.0 p.1 p.2 k
  fits_hear j (Accepted b t) n few i p k = fits_accepted j b t n k
  fits_hear j (Learn t v) n few i p k = fits_quiet (learns n t v) (put_learnt n t v p.0 p.1 k)
  fits_hear j (Offer v) n few i p k = fits_offer v n p k
  fits_hear j (Greet x) n few i p k = fits_welcome x n p k
  fits_hear j (Ask x) n few i p k = fits_quiet n k
  fits_hear j (Give x) n few i p k = fits_quiet n k
  fits_hear j (Alive c) n few i p k = fits_alive j c n i k
  fits_hear j Gone n few i p k = fits_quiet n k

  fits_row : (e : PaxosEvent) (n : Node) → (C → length n.acceptor.votes ≤ last_u32) → IsGiven e → IsInRange n → Fits (row e n)
  fits_row (Heard m) n few p k = fits_hear m.from m.wire n few p.from p.wire k
  fits_row (Own v) n few p k = fits_own v n p k
  fits_row Campaign n few p k = fits_campaign n k
  fits_row Tick n few p k = fits_tick n k
  fits_row Propose n few p k = fits_times n.horizon n k

  fits_step : (e : PaxosEvent) (n : Node) → (C → length n.acceptor.votes ≤ last_u32) → IsGiven e → IsInRange n → Fits (node_step e n)
  unfolding node_step
  fits_step e n few p k = fits_also (row e n) forgets (fits_row e n few p k) (λ z. fits_forgets (row e n).node z)

-- ---- the law

pub founder_in_range : (g : Group) (i : Inc) → IsInc i → 0 < length g.founders → AreIncs g.founders → IsInRange (founder g i)
founder_in_range g i j some k = record {
  me = j;
  promise = inr first;
  votes = tt;
  decided = λ e h. absurd h;
  next = omega arith;
  turns = λ w h. let z : first_turns g ≡ w = cc in (omega arith, subst (λ y. KnowsIncs y) z (first_incs g k));
  leader = lead (inc_eq i (first_inc g.founders));
  own = λ v h. absurd h;
}
  where
    first_is : (is : List Inc) → 0 < length is → AreIncs is → IsInc (first_inc is)
    first_is [] h f = absurd (omega (arith, h))
    first_is (x ∷ xs) h f = f x (inl refl)

    first : IsBallot (first_ballot g)
    first = record { round_above = omega arith; round_below = omega arith; inc = first_is g.founders some k }

    lead : (u : Bool) (l : Leader) → cond u (Some (new_leader (first_ballot g) [])) None ≡ Some l → LeadsInRange l
    lead false l e = absurd (cc e)
    lead true l e = let z : new_leader (first_ballot g) [] ≡ l = cc in subst (λ y. LeadsInRange y) z (record { ballot = first; reported = λ p h. absurd h; proposals = λ p h. absurd h; offers = λ v h. absurd h })

pub joiner_in_range : (g : Group) (i : Inc) → IsInc i → IsInRange (joiner g i)
joiner_in_range g i j = record {
  me = j;
  promise = inl refl;
  votes = tt;
  decided = λ e h. absurd h;
  next = omega arith;
  turns = λ w h. absurd (cc h);
  leader = λ l h. absurd (cc h);
  own = λ v h. absurd h;
}

-- no more votes are kept than a promise can count
abbrev Few : Node → Type 0
Few n = length n.acceptor.votes ≤ last_u32

pub step_in_range : (e : PaxosEvent) (n : Node) → IsGiven e → IsInRange n → IsInRange (node_step e n).node
step_in_range e n p k = (fits_step (Few n) e n (λ c. c) p k).node

pub step_spelt : (e : PaxosEvent) (n : Node) → IsGiven e → IsInRange n → Few n → (m : Message) → In m (node_step e n).sent → IsMessage m × IsHeld m.wire
step_spelt e n p k c m h = (fits_step (Few n) e n (λ c. c) p k).sent m h c

pub take_in_range : (n : Node) → IsInRange n → IsInRange (take n).node
take_in_range n k = (fits_take (Few n) n k).node
