-- Proposals, offers and campaigns.
use Rattle.std.proofs.Common.{◌≡◌, ℕ, zero, suc, ◌+◌, ◌-◌, ◌^◌, ◌≤◌, Bool, true, false, cond, not, ◌⊎◌, inl, inr, ◌||◌, ◌&&◌, Option, Some, None, List, [], ◌∷◌, ◌++◌, leb, eqb, refl, sym, ap, ◌∙◌, subst, arith}
use Rattle.std.specs.Prelude.{is_some, map, fold}
use Rattle.std.proofs.lemmas.Bool.{false≢true, eqb-true, cond_both, or_cases, or_parts, and_parts, not-false}
use Rattle.gr_ids.specs.Names.{ballot_lt, ballot_eq, has_inc, inc_eq}
use Rattle.node_rules.specs.Acceptor.{promising}
use Rattle.node_rules.specs.Chosen.{Cast, cast_of}
use Rattle.node_rules.specs.Known.{config_by, config_here, last_by}
use Rattle.node_rules.specs.Leader.{vote_at, Promised, has_promise, best, Leader, Proposal, Choice, proposal_at, free_slot, may_propose, reported_above, noop, first_offer, choice, choice_at, proposing, keep_promise, take_offer, refuses_offer, new_leader}
use Rattle.node_rules.specs.Learner.{is_decided}
use Rattle.node_rules.specs.Learning.{hear_accepted}
use Rattle.node_rules.specs.Lists.{In}
use Rattle.node_rules.specs.Node.{Node, first_ballot, message, to_others, leads, quiet, also}
use Rattle.node_rules.specs.Proposing.{decided_above, proposes, propose_choice, lead_propose, propose_one, propose_times, propose_all, lead_promise, hear_promise, lead_offers, offers_out, offers, own_value, lead_offer, hear_offer, audience, next_ballot, campaign}
use Rattle.node_rules.specs.Slots.{put_slot, from_slot}
use Rattle.node_rules.specs.Voting.{votes}
use Rattle.node_rules.specs.World.{Took, put_node}
use Rattle.order_laws.specs.Names.{Inc, Ballot, Value, Vote, Prepare, Accept, Offer, Message}
use Rattle.slot_values.specs.Log.{Group, majority, Turns}
use Rattle.order_laws.proofs.Order.{ballot-eq, lt_same, lt_le, round_lt, cases_ballot}
use Rattle.order_laws.proofs.Lists.{in_left, in_push, in_last, in_put, at_slot-put_same, at_slot-in, in_map}
use Rattle.order_laws.proofs.Agree.{Report}
use Rattle.order_laws.proofs.Inv.{Nodes, NextFrom, Ranked, KeptOk, LeaderOk, NodeOk, PromiseOk, MsgOk, Backed, Inv, put_same, Rises, put_rises, kept_rises, leader_rises, silent}
use Rattle.order_laws.proofs.Votes.{voted, NewVote, voted_ok, fresh_vote, kept_grows}
use Rattle.order_laws.proofs.Acts.{append_nil, InvAfter, after_sends, after_quiet, safe_quiet, rebase, adds, says, safe_also, acceptor_up, learner_up, report_own}
use Rattle.order_laws.proofs.Leads.{others_ok, Known, known_config, inv_leads, knows_put, keeps_ok, safe_accepted}

-- the free slot is at or above where the search began, and is neither decided nor proposed
free-slot : (d : ℕ → Bool) (l : Leader) (k t u : ℕ) → free_slot d l k t ≡ Some u → (t ≤ u) × (is_some (proposal_at l u) ≡ false)
free-slot d l zero t u h = cc
free-slot d l (suc k) t u h = go (d t || is_some (proposal_at l t)) refl (free-slot d l k (t + 1) u)
  where
    go : (b : Bool) → (d t || is_some (proposal_at l t)) ≡ b → (free_slot d l k (t + 1) ≡ Some u → (t + 1 ≤ u) × (is_some (proposal_at l u) ≡ false)) → (t ≤ u) × (is_some (proposal_at l u) ≡ false)
    go true e r = let k = r (rw e at h) in (omega (arith, k.0), k.1)
    go false e r =
        let q : Some t ≡ Some u = rw e at h in
        let tu : t ≡ u = cc in
        let f = (or_parts (d t) (is_some (proposal_at l t)) e).1 in
        (omega arith, subst (λ z. is_some (proposal_at l z) ≡ false) tu f)

none_some : {A : Type 0} (o : Option A) (x : A) → is_some o ≡ false → o ≡ Some x → ⊥
none_some None x h e = cc
none_some (Some y) x h e = false≢true (sym h)

pub some_is : {A : Type 0} (o : Option A) → is_some o ≡ true → (x : A) × (o ≡ Some x)
some_is None h = absurd (false≢true h)
some_is (Some x) h = (x, refl)

module _ (g : Group) (at : Nodes) (ws : List Message) (cs : List Cast) (ts : List Took) (i : Inc) (n : Node) (inv : Inv g at ws cs ts) (here : at i ≡ Some n) (l : Leader) (led : n.leader ≡ Some l) (c : Choice) (above : n.learner.next ≤ c.slot) (free : is_some (proposal_at l c.slot) ≡ false) where
  ok : NodeOk g at cs i n
  ok = inv.nodes i n here

  lok : LeaderOk g at cs i n.acceptor.promise n.learner.next n.acceptor.low l
  lok = ok.leader l led

  low_t : n.acceptor.low ≤ c.slot
  low_t = omega (arith, ok.learner.low, ok.learner.slot)

  -- nobody voted in this slot at this ballot before
  no_vote : (a : Inc) (v : Value) → In (cast_of a c.slot l.ballot v) cs → ⊥
  no_vote a v h = let p = lok.knows a c.slot v h low_t in none_some (proposal_at l c.slot) p.0 free p.1

  proposal_backed : may_propose n.turns l c.slot ≡ true → ((x : Vote) → best (config_here n.turns c.slot) l.promises c.slot ≡ Some x → x.value ≡ c.value) → (l.ballot ≡ first_ballot g) ⊎ Backed g at cs l.ballot c.slot c.value
  proposal_backed may rule =
      elim (or_cases (eqb l.ballot.round 1) (majority (config_here n.turns c.slot) (has_promise l.promises)) (and_parts (is_some (config_by n.turns c.slot) && leb c.slot (2 ^ 42)) (eqb l.ballot.round 1 || majority (config_here n.turns c.slot) (has_promise l.promises)) may).1) [
        | inl e ↦ elim lok.ranked [ inl q ↦ inl q | inr q ↦ let r : l.ballot.round ≡ 1 = eqb-true l.ballot.round 1 e in absurd (omega arith) ]
        | inr m ↦ inr (by_promises m)
      ]
    where
      under : (p : Promised) (x : Vote) → In p l.promises → vote_at p.votes c.slot ≡ Some x → ballot_lt x.ballot l.ballot ≡ true
      under p x h e =
          let k = lok.promised p h in
          let r = (k.reports c.slot (omega (arith, k.from_below))).real x e in
          elim (cases_ballot x.ballot l.ballot) [
            | inl q ↦ absurd (no_vote p.inc x.value (subst (λ z. In (cast_of p.inc c.slot z x.value) cs) q r.0))
            | inr q ↦ elim q [ inl z ↦ z | inr z ↦ absurd (false≢true (sym r.1 ∙ z)) ]
          ]

      by_promises : majority (config_here n.turns c.slot) (has_promise l.promises) ≡ true → Backed g at cs l.ballot c.slot c.value
      by_promises m =
          let kn : Known g cs (config_here n.turns c.slot) c.slot = known_config g cs n.acceptor.promise n.learner n.acceptor.low n.turns c.slot (has_promise l.promises) ok.learner m in
          record {
            support = record {
              log = kn.log;
              log_decided = kn.log_decided;
              known = kn.within;
              promises = l.promises;
              promised = subst (λ z. majority z (has_promise l.promises) ≡ true) kn.same m;
              reports = λ p h. let k = lok.promised p h in k.reports c.slot (omega (arith, k.from_below));
              below = under;
              rule = λ x e. rule x (subst (λ z. best z l.promises c.slot ≡ Some x) (sym kn.same) e);
            };
            upto = λ p h. (lok.promised p h).upto;
          }

  pub safe_proposes : (l.ballot ≡ first_ballot g) ⊎ Backed g at cs l.ballot c.slot c.value → InvAfter g at ws cs ts i (proposes n l c)
  safe_proposes bk =
      safe_also g at ws cs ts i (record { node = m; sent = ms; cast = x ∷ []; took = [] }) (hear_accepted n.me l.ballot c.slot)
      (subst (λ z. Inv g (put_node at i m) (ws ++ ms) cs' z) (sym (append_nil ts)) (adds g (put_node at i m) ws cs' ts i m ms inv1 (put_same at i m) said))
      next
    where
      x : Vote
      x = record { slot = c.slot; ballot = l.ballot; value = c.value }

      q : Proposal
      q = record { slot = c.slot; value = c.value; accepted = [] }

      l' : Leader
      l' = proposing l c

      m : Node
      m = leads (votes n x) l'

      ms : List Message
      ms = to_others n (config_here n.turns c.slot) (Accept l.ballot c.slot c.value)

      cs' : List Cast
      cs' = cs ++ voted i x ∷ []

      new : NewVote g at cs i x
      new = inr (lok.mine, no_vote, bk)

      more : (c : Cast) → In c cs → In c cs'
      more y h = in_left y cs (voted i x ∷ []) h

      lead : (k : Leader) → Some l' ≡ Some k → LeaderOk g (put_node at i m) cs' i n.acceptor.promise n.learner.next n.acceptor.low k
      lead k e = let z : l' ≡ k = cc in subst (λ y. LeaderOk g (put_node at i m) cs' i n.acceptor.promise n.learner.next n.acceptor.low y) z lead'
        where
          knows' : (a : Inc) (s : ℕ) (u : Value) → In (cast_of a s l.ballot u) cs' → n.acceptor.low ≤ s → (p : Proposal) × (proposal_at l' s ≡ Some p)
          knows' a s u h lo = elim (in_push (cast_of a s l.ballot u) cs (voted i x) h) [
            | inl y ↦ knows_put l q s (lok.knows a s u y lo)
            | inr y ↦ (q, at_slot-put_same (λ p. p.slot) l.proposals q s (ap (λ c. c.vote.slot) y))
          ]

          lead' : LeaderOk g (put_node at i m) cs' i n.acceptor.promise n.learner.next n.acceptor.low l'
          lead' = record {
            mine = lok.mine;
            top = lok.top;
            ranked = lok.ranked;
            knows = knows';
            real = λ p h. elim (in_put (λ p. p.slot) l.proposals q p h) [ inl z ↦ subst (λ y. In (cast_of i y.slot l.ballot y.value) cs') z (in_last cs (voted i x)) | inr z ↦ more (cast_of i p.slot l.ballot p.value) (lok.real p z) ];
            counted = λ p h. elim (in_put (λ p. p.slot) l.proposals q p h) [
              | inl z ↦ subst (λ y. (a : Inc) → has_inc y.accepted a ≡ true → In (cast_of a y.slot l.ballot y.value) cs') z (λ a w. absurd (false≢true w))
              | inr z ↦ λ a w. more (cast_of a p.slot l.ballot p.value) (lok.counted p z a w)
            ];
            promised = λ p h. kept_rises at (put_node at i m) (put_rises at i n m here (lt_same n.acceptor.promise) (omega arith)) cs' l.ballot n.learner.next n.learner.next p (omega arith)
                (kept_grows g at cs cs' more (fresh_vote g at ws cs ts i n x inv here lok.top low_t lok.ranked new) l.ballot n.learner.next p (lok.promised p h));
          }

      inv1 : Inv g (put_node at i m) ws cs' ts
      inv1 = voted_ok g at ws cs ts i n x inv here lok.top low_t lok.ranked new (Some l') lead

      own : In (cast_of l.ballot.inc c.slot l.ballot c.value) cs'
      own = subst (λ z. In (cast_of z c.slot l.ballot c.value) cs') (sym lok.mine) (in_last cs (voted i x))

      said : (y : Message) → In y ms → MsgOk g (put_node at i m) cs' y
      said y h = others_ok g (put_node at i m) cs' i n (config_here n.turns c.slot) (Accept l.ballot c.slot c.value) ok.me (λ to. own) y h

      next : (at' : Nodes) (ws' : List Message) (ds : List Cast) (ts' : List Took) → Inv g at' ws' ds ts' → at' i ≡ Some m → InvAfter g at' ws' ds ts' i (hear_accepted n.me l.ballot c.slot m)
      next at' ws' ds ts' inv' here' =
          let k = (inv'.nodes i m here').acceptor.real x (at_slot-in (λ y. y.slot) (put_slot (λ y. y.slot) n.acceptor.votes x) c.slot x (at_slot-put_same (λ y. y.slot) n.acceptor.votes x c.slot refl)) in
          safe_accepted g at' ws' ds ts' i m n.me l.ballot c.slot inv' here' (c.value, subst (λ z. In (cast_of z c.slot l.ballot c.value) ds) (sym ok.me) k)

-- what a choice is: the free slot, at which the leader may propose, and the value of the highest vote reported, if there is one
choice_rule : (above : ℕ → Bool) (w : Option Turns) (l : Leader) (o : Option ℕ) (c : Choice) → choice_at above w l o ≡ Some c
    → (o ≡ Some c.slot) × (may_propose w l c.slot ≡ true) × ((x : Vote) → best (config_here w c.slot) l.promises c.slot ≡ Some x → x.value ≡ c.value)
choice_rule above w l None c h = absurd (cc)
choice_rule above w l (Some t) c h = go (may_propose w l t) refl (best (config_here w t) l.promises t) refl
  where
    Rule : Choice → Type 0
    Rule d = (Some t ≡ Some d.slot) × (may_propose w l d.slot ≡ true) × ((x : Vote) → best (config_here w d.slot) l.promises d.slot ≡ Some x → x.value ≡ d.value)

    none : best (config_here w t) l.promises t ≡ None → (v : Value) (x : Vote) → best (config_here w t) l.promises t ≡ Some x → x.value ≡ v
    none e v x f = let q : None ≡ Some x = sym e ∙ f in absurd (cc)

    offer : may_propose w l t ≡ true → best (config_here w t) l.promises t ≡ None → (os : List Value) → first_offer t os ≡ Some c → Rule c
    offer m e [] k = absurd (cc)
    offer m e (v ∷ vs) k = let d : Choice = record { slot = t; value = v; offers = vs } in let q : d ≡ c = cc in subst Rule q (refl, m, none e v)

    fill : may_propose w l t ≡ true → best (config_here w t) l.promises t ≡ None → (u : Bool) → cond u (Some (record { slot = t; value = noop l.ballot.inc; offers = l.offers })) (first_offer t l.offers) ≡ Some c → Rule c
    fill m e true k = let d : Choice = record { slot = t; value = noop l.ballot.inc; offers = l.offers } in let q : d ≡ c = cc in subst Rule q (refl, m, none e (noop l.ballot.inc))
    fill m e false k = offer m e l.offers k

    go : (u : Bool) → may_propose w l t ≡ u → (b : Option Vote) → best (config_here w t) l.promises t ≡ b → Rule c
    go false m b e = let k : None ≡ Some c = rw m at h in absurd (cc)
    go true m (Some x) e =
        let d : Choice = record { slot = t; value = x.value; offers = l.offers } in
        let k : Some d ≡ Some c = rw (m, e) at h in
        let q : d ≡ c = cc in
        subst Rule q (refl, m, λ y f. let z : Some x ≡ Some y = sym e ∙ f in let r : x ≡ y = cc in ap (λ z. z.value) (sym r))
    go true m None e = fill m e (reported_above l.promises t || above t) (rw (m, e) at h)

pub safe_propose_one : (g : Group) (at : Nodes) (ws : List Message) (cs : List Cast) (ts : List Took) (i : Inc) (n : Node) → Inv g at ws cs ts → at i ≡ Some n → InvAfter g at ws cs ts i (propose_one n)
unfolding propose_one
safe_propose_one g at ws cs ts i n inv here = go n.leader refl
  where
    still : InvAfter g at ws cs ts i (quiet n)
    still = safe_quiet g i n at ws cs ts inv here

    go : (o : Option Leader) → n.leader ≡ o → InvAfter g at ws cs ts i (lead_propose n o)
    go None e = still
    go (Some l) e = chosen (choice (is_decided n.learner) (decided_above n.learner) n.turns l n.horizon n.learner.next) refl
      where
        chosen : (o : Option Choice) → choice (is_decided n.learner) (decided_above n.learner) n.turns l n.horizon n.learner.next ≡ o → InvAfter g at ws cs ts i (propose_choice n l o)
        chosen None f = still
        chosen (Some c) f =
            let r = choice_rule (decided_above n.learner) n.turns l (free_slot (is_decided n.learner) l n.horizon n.learner.next) c f in
            let fs = free-slot (is_decided n.learner) l n.horizon n.learner.next c.slot r.0 in
            safe_proposes g at ws cs ts i n inv here l e c fs.0 fs.1 (proposal_backed g at ws cs ts i n inv here l e c fs.0 fs.1 r.1 r.2)

pub safe_propose_times : (k : ℕ) (g : Group) (i : Inc) (n : Node) (at : Nodes) (ws : List Message) (cs : List Cast) (ts : List Took) → Inv g at ws cs ts → at i ≡ Some n → InvAfter g at ws cs ts i (propose_times k n)
safe_propose_times zero g i n at ws cs ts inv here = safe_quiet g i n at ws cs ts inv here
safe_propose_times (suc k) g i n at ws cs ts inv here =
    safe_also g at ws cs ts i (propose_one n) (propose_times k) (safe_propose_one g at ws cs ts i n inv here) (λ at' ws' cs' ts' inv' here'. safe_propose_times k g i (propose_one n).node at' ws' cs' ts' inv' here')

pub safe_propose_all : (g : Group) (i : Inc) (n : Node) (at : Nodes) (ws : List Message) (cs : List Cast) (ts : List Took) → Inv g at ws cs ts → at i ≡ Some n → InvAfter g at ws cs ts i (propose_all n)
safe_propose_all g i n at ws cs ts inv here = safe_propose_times n.horizon g i n at ws cs ts inv here

-- ---- promises

pub safe_promise : (g : Group) (at : Nodes) (ws : List Message) (cs : List Cast) (ts : List Took) (i : Inc) (n : Node) (j : Inc) (b : Ballot) (s : ℕ) (xs : List Vote) → Inv g at ws cs ts → at i ≡ Some n → PromiseOk at cs j b s xs → InvAfter g at ws cs ts i (hear_promise j b xs n)
unfolding hear_promise
safe_promise g at ws cs ts i n j b s xs inv here pr = go n.leader refl
  where
    go : (o : Option Leader) → n.leader ≡ o → InvAfter g at ws cs ts i (lead_promise j b xs n o)
    go None e = safe_quiet g i n at ws cs ts inv here
    go (Some l) e = cond_both (ballot_eq l.ballot b) (also (quiet m) propose_all) (quiet n) (λ x. InvAfter g at ws cs ts i x) kept (λ f. safe_quiet g i n at ws cs ts inv here)
      where
        m : Node
        m = leads n (keep_promise l j xs)

        kept : ballot_eq l.ballot b ≡ true → InvAfter g at ws cs ts i (also (quiet m) propose_all)
        kept f =
            let bb : l.ballot ≡ b = ballot-eq l.ballot b f in
            let lok = keeps_ok g at cs i n l j s xs here (subst (λ z. PromiseOk at cs j z s xs) (sym bb) pr) ((inv.nodes i n here).leader l e) in
            safe_also g at ws cs ts i (quiet m) propose_all (after_quiet g at ws cs ts i m (inv_leads g at ws cs ts i n (keep_promise l j xs) inv here lok)) (λ at' ws' cs' ts' inv' here'. safe_propose_all g i m at' ws' cs' ts' inv' here')

-- ---- offers

offer_ok : (g : Group) (at : Nodes) (cs : List Cast) (i : Inc) (promise : Ballot) (next low : ℕ) (d : ℕ → Bool) (last : Inc → ℕ) (l : Leader) (v : Value) → LeaderOk g at cs i promise next low l → LeaderOk g at cs i promise next low (take_offer d last l v)
offer_ok g at cs i promise next low d last l v o =
    cond_both (refuses_offer d last l v) l (record l { offers = l.offers ++ v ∷ [] }) (λ (k : Leader). LeaderOk g at cs i promise next low k) (λ e. o) (λ e. record { mine = o.mine; top = o.top; ranked = o.ranked; knows = o.knows; real = o.real; counted = o.counted; promised = o.promised })

offers_ok : (g : Group) (at : Nodes) (cs : List Cast) (i : Inc) (promise : Ballot) (next low : ℕ) (d : ℕ → Bool) (last : Inc → ℕ) (vs : List Value) (l : Leader) → LeaderOk g at cs i promise next low l → LeaderOk g at cs i promise next low (fold (take_offer d last) l vs)
offers_ok g at cs i promise next low d last [] l o = o
offers_ok g at cs i promise next low d last (v ∷ vs) l o = offers_ok g at cs i promise next low d last vs (take_offer d last l v) (offer_ok g at cs i promise next low d last l v o)

offers_out_ok : (g : Group) (at : Nodes) (cs : List Cast) (n : Node) (vs : List Value) (x : Message) → In x (offers_out n vs) → MsgOk g at cs x
offers_out_ok g at cs n vs x h = go (eqb n.acceptor.promise.round 0 || inc_eq n.acceptor.promise.inc n.me) refl
  where
    go : (u : Bool) → (eqb n.acceptor.promise.round 0 || inc_eq n.acceptor.promise.inc n.me) ≡ u → MsgOk g at cs x
    go true e = let k : In x [] = rw e at h in absurd k
    go false e =
        let k : In x (map (λ v. message n n.acceptor.promise.inc (Offer v)) vs) = rw e at h in
        let r = in_map (λ v. message n n.acceptor.promise.inc (Offer v)) vs x k in
        subst (λ z. MsgOk g at cs z) r.2 tt

safe_lead_offers : (g : Group) (i : Inc) (n : Node) (l : Leader) (vs : List Value) (at : Nodes) (ws : List Message) (cs : List Cast) (ts : List Took) → n.leader ≡ Some l → Inv g at ws cs ts → at i ≡ Some n → InvAfter g at ws cs ts i (lead_offers vs n l)
safe_lead_offers g i n l vs at ws cs ts e inv here =
    let k : Leader = fold (take_offer (is_decided n.learner) (last_by n.turns)) l vs in
    let lok = offers_ok g at cs i n.acceptor.promise n.learner.next n.acceptor.low (is_decided n.learner) (last_by n.turns) vs l ((inv.nodes i n here).leader l e) in
    safe_also g at ws cs ts i (quiet (leads n k)) propose_all (after_quiet g at ws cs ts i (leads n k) (inv_leads g at ws cs ts i n k inv here lok)) (λ at' ws' cs' ts' inv' here'. safe_propose_all g i (leads n k) at' ws' cs' ts' inv' here')

pub safe_offers : (g : Group) (i : Inc) (n : Node) (vs : List Value) (at : Nodes) (ws : List Message) (cs : List Cast) (ts : List Took) → Inv g at ws cs ts → at i ≡ Some n → InvAfter g at ws cs ts i (offers vs n n.leader)
safe_offers g i n vs at ws cs ts inv here = go n.leader refl
  where
    go : (o : Option Leader) → n.leader ≡ o → InvAfter g at ws cs ts i (offers vs n o)
    go None e = says g at ws cs ts i n (offers_out n vs) inv here (offers_out_ok g at cs n vs)
    go (Some l) e = safe_lead_offers g i n l vs at ws cs ts e inv here

pub safe_hear_offer : (g : Group) (i : Inc) (n : Node) (v : Value) (at : Nodes) (ws : List Message) (cs : List Cast) (ts : List Took) → Inv g at ws cs ts → at i ≡ Some n → InvAfter g at ws cs ts i (hear_offer v n)
unfolding hear_offer
safe_hear_offer g i n v at ws cs ts inv here =
    cond_both (eqb v.id.number 0) (quiet n) (lead_offer v n n.leader) (λ x. InvAfter g at ws cs ts i x) (λ e. safe_quiet g i n at ws cs ts inv here) (λ e. go n.leader refl)
  where
    go : (o : Option Leader) → n.leader ≡ o → InvAfter g at ws cs ts i (lead_offer v n o)
    go None e = safe_quiet g i n at ws cs ts inv here
    go (Some l) e = safe_lead_offers g i n l (v ∷ []) at ws cs ts e inv here

-- a change of the own values alone
pub inv_own : (g : Group) (at : Nodes) (ws : List Message) (cs : List Cast) (ts : List Took) (i : Inc) (n : Node) (vs : List Value) → Inv g at ws cs ts → at i ≡ Some n → Inv g (put_node at i (record n { own = vs })) ws cs ts
inv_own g at ws cs ts i n vs inv here =
    let m : Node = record n { own = vs } in
    let ok = inv.nodes i n here in
    let r = put_rises at i n m here (lt_same n.acceptor.promise) (omega arith) in
    let ok' : NodeOk g (put_node at i m) cs i m = record {
      me = ok.me;
      horizon = ok.horizon;
      acceptor = ok.acceptor;
      learner = ok.learner;
      leader = λ l e. leader_rises at (put_node at i m) r g cs i n.acceptor.promise n.learner.next n.learner.next n.acceptor.low l (omega arith) (ok.leader l e);
    } in
    subst (λ x. Inv g (put_node at i m) x cs ts) (append_nil ws) (silent g at ws cs ts i n m [] inv here (lt_same n.acceptor.promise) (omega arith) ok' (λ x h. absurd h))

pub safe_own_value : (g : Group) (i : Inc) (n : Node) (v : Value) (at : Nodes) (ws : List Message) (cs : List Cast) (ts : List Took) → Inv g at ws cs ts → at i ≡ Some n → InvAfter g at ws cs ts i (own_value v n)
unfolding own_value
safe_own_value g i n v at ws cs ts inv here =
    let m : Node = record n { own = n.own ++ v ∷ [] } in
    rebase g at ws cs ts i m (offers (v ∷ []) m m.leader) (safe_offers g i m (v ∷ []) (put_node at i m) ws cs ts (inv_own g at ws cs ts i n (n.own ++ v ∷ []) inv here) (put_same at i m))

-- ---- the campaign

pub safe_campaign : (g : Group) (i : Inc) (n : Node) (at : Nodes) (ws : List Message) (cs : List Cast) (ts : List Took) → Inv g at ws cs ts → at i ≡ Some n → InvAfter g at ws cs ts i (campaign n)
unfolding campaign
safe_campaign g i n at ws cs ts inv here = go (eqb n.acceptor.promise.round (2 ^ 32 - 1) || not (is_some n.turns)) refl
  where
    ok : NodeOk g at cs i n
    ok = inv.nodes i n here

    nb : Ballot
    nb = next_ballot n

    own : Promised
    own = record { inc = n.me; votes = from_slot (λ x. x.slot) n.acceptor.votes n.learner.next }

    l : Leader
    l = new_leader nb (own ∷ [])

    m : Node
    m = record n { acceptor = promising n.acceptor nb; leader = Some l }

    low_next : n.acceptor.low ≤ n.learner.next
    low_next = omega (arith, ok.learner.low, ok.learner.slot)

    up : ballot_lt n.acceptor.promise nb ≡ true
    up = round_lt n.acceptor.promise nb (omega arith)

    up' : ballot_lt nb n.acceptor.promise ≡ false
    up' = lt_le n.acceptor.promise nb up

    r : Rises at (put_node at i m)
    r = put_rises at i n m here up' (omega arith)

    no_vote : (a : Inc) (t : ℕ) (v : Value) → In (cast_of a t nb v) cs → ⊥
    no_vote a t v h =
        let k : In (cast_of n.me t nb v) cs = inv.proposed a t nb v h in
        let b : ballot_lt n.acceptor.promise nb ≡ false = ok.acceptor.below t nb v (subst (λ z. In (cast_of z t nb v) cs) ok.me k) in
        false≢true (sym b ∙ up)

    go : (u : Bool) → (eqb n.acceptor.promise.round (2 ^ 32 - 1) || not (is_some n.turns)) ≡ u → InvAfter g at ws cs ts i (campaign n)
    go true e = rw e (safe_quiet g i n at ws cs ts inv here)
    go false e = rw e (after_sends g at ws cs ts i m ms (silent g at ws cs ts i n m ms inv here up' (omega arith) ok' said))
      where
        ms : List Message
        ms = to_others n (audience n) (Prepare nb n.learner.next)

        ranked : Ranked g nb
        ranked =
            let w = some_is n.turns (not-false (is_some n.turns) (or_parts (eqb n.acceptor.promise.round (2 ^ 32 - 1)) (not (is_some n.turns)) e).1) in
            let r1 = (ok.learner.turns w.0 w.1).2 in
            inr (omega (arith, r1))

        lok : LeaderOk g (put_node at i m) cs i nb n.learner.next n.acceptor.low l
        lok = record {
          mine = ok.me;
          top = refl;
          ranked = ranked;
          knows = λ a t v h lo. absurd (no_vote a t v h);
          real = λ p h. absurd h;
          counted = λ p h. absurd h;
          promised = λ p h. elim h [
            | inl q ↦ subst (λ z. KeptOk (put_node at i m) cs nb n.learner.next z) q (record {
              from = n.learner.next;
              from_below = omega arith;
              upto = (m, subst (λ z. put_node at i m z ≡ Some m) (sym ok.me) (put_same at i m), lt_same nb);
              reports = λ t st. subst (λ z. Report cs z nb t own.votes) (sym ok.me) (report_own cs i n.acceptor.promise nb n.acceptor.votes n.acceptor.low n.learner.next t ok.acceptor low_next st up');
            })
            | inr q ↦ absurd q
          ];
        }

        ok' : NodeOk g (put_node at i m) cs i m
        ok' = record {
          me = ok.me;
          horizon = ok.horizon;
          acceptor = acceptor_up cs i n.acceptor.promise nb n.acceptor.votes n.acceptor.low up' ok.acceptor;
          learner = learner_up g cs n.acceptor.promise nb n.learner n.acceptor.low n.turns up' ok.learner;
          leader = λ k f. let z : l ≡ k = cc in subst (λ y. LeaderOk g (put_node at i m) cs i nb n.learner.next n.acceptor.low y) z lok;
        }

        nx : NextFrom (put_node at i m) n.me n.learner.next
        nx = (m, subst (λ z. put_node at i m z ≡ Some m) (sym ok.me) (put_same at i m), omega arith)

        said : (x : Message) → In x ms → MsgOk g (put_node at i m) cs x
        said x h = others_ok g (put_node at i m) cs i n (audience n) (Prepare nb n.learner.next) ok.me (λ to. nx) x h
