-- The invariant is kept by a vote: one more cast.
use Rattle.std.proofs.Common.{◌≡◌, ℕ, ◌≤◌, true, false, ◌⊎◌, inl, inr, Option, Some, List, [], ◌∷◌, ◌++◌, sym, ap, ◌∙◌, subst, arith}
use Rattle.std.proofs.lemmas.Bool.{false≢true, cases_eq}
use Rattle.gr_ids.specs.Names.{ballot_lt, inc_eq}
use Rattle.node_rules.specs.Acceptor.{voting}
use Rattle.node_rules.specs.Chosen.{Cast, has_cast, cast_of}
use Rattle.node_rules.specs.Leader.{vote_at, Promised, Leader, Proposal, proposal_at}
use Rattle.node_rules.specs.Lists.{In}
use Rattle.node_rules.specs.Node.{Node, first_ballot}
use Rattle.node_rules.specs.Learner.{Learner}
use Rattle.node_rules.specs.Slots.{put_slot}
use Rattle.node_rules.specs.World.{Took, put_node}
use Rattle.order_laws.specs.Names.{Taken, Inc, Ballot, Value, Vote, Welcome, Wire, Prepare, Promise, Accept, Accepted, Learn, Offer, Greet, Ask, Give, Alive, Gone, Message}
use Rattle.slot_values.specs.Log.{Group, config, Turns}
use Rattle.node_rules.proofs.Incs.{inc_same}
use Rattle.order_laws.proofs.Order.{lt_same, le_trans}
use Rattle.order_laws.proofs.Lists.{in_left, in_push, in_last, in_put, majority_more, cast-in, has-cast, at_slot-put_same, at_slot-put_other}
use Rattle.order_laws.proofs.Agree.{Decided, decided, LogDecided, Report}
use Rattle.order_laws.proofs.Inv.{Nodes, Upto, Begun, TookWell, Stands, Greeted, Ranked, AcceptorOk, LearnerOk, KeptOk, LeaderOk, NodeOk, WireOk, Backed, Inv, put_same, put_cases, Rises, put_rises, node_rises, wire_rises, backed_rises}

abbrev pub More : List Cast → List Cast → Type 0
More cs cs' = (c : Cast) → In c cs → In c cs'

-- a new cast isn't below its caster's promise
abbrev pub Fresh : Nodes → List Cast → List Cast → Type 0
Fresh at cs cs' = (a : Inc) (t : ℕ) (b : Ballot) (v : Value) → In (cast_of a t b v) cs' → In (cast_of a t b v) cs ⊎ ((n : Node) → at a ≡ Some n → ballot_lt b n.acceptor.promise ≡ false)

more_casts : (cs cs' : List Cast) → More cs cs' → (c : Cast) → has_cast cs c ≡ true → has_cast cs' c ≡ true
more_casts cs cs' m c h = has-cast cs' c (m c (cast-in cs c h))

pub decided_grows : (g : Group) (cs cs' : List Cast) → More cs cs' → {t : ℕ} {v : Value} → Decided g cs t v → Decided g cs' t v
decided_grows g cs cs' m {t} {v} (decided log b d k maj) =
    decided log b (λ j u e. decided_grows g cs cs' m (d j u e)) k
    (majority_more (config g log t) (λ a. has_cast cs (cast_of a t b v)) (λ a. has_cast cs' (cast_of a t b v)) (λ a h. more_casts cs cs' m (cast_of a t b v) h) maj)

module _ (g : Group) (cs cs' : List Cast) (m : More cs cs') where
  pub log_grows : (log : List Value) → LogDecided g cs log → LogDecided g cs' log
  log_grows log d k u e = decided_grows g cs cs' m (d k u e)

  pub begun_grows : (i : Inc) (s : ℕ) → Begun g cs i s → Begun g cs' i s
  begun_grows i s b = record { before = b.before; before_decided = log_grows b.before b.before_decided; slot = b.slot; value = b.value; value_decided = decided_grows g cs cs' m b.value_decided; joiner = b.joiner; adds = b.adds; names = b.names; kept = b.kept; effect = b.effect }

  pub took_grows : (x : Taken) → TookWell g cs x → TookWell g cs' x
  took_grows x k = record { decided = decided_grows g cs cs' m k.decided; log = k.log; log_decided = log_grows k.log k.log_decided; slot = k.slot; kept = k.kept }

  pub stands_grows : (w : Turns) → Stands g cs w → Stands g cs' w
  stands_grows w s = record { log = s.log; log_decided = log_grows s.log s.log_decided; slot = s.slot; reading = s.reading; base = s.base; room = s.room; configs = s.configs }

  pub greeted_grows : (to : Inc) (w : Welcome) → Greeted g cs to w → Greeted g cs' to w
  greeted_grows to w s = record { begun = begun_grows to w.slot s.begun; log = s.log; log_decided = log_grows s.log s.log_decided; slot = s.slot; reading = s.reading; round = s.round; configs = s.configs }

module _ (g : Group) (at : Nodes) (cs cs' : List Cast) (m : More cs cs') (f : Fresh at cs cs') where
  pub report_grows : (a : Inc) (b : Ballot) (t : ℕ) (xs : List Vote) → Upto at a b → Report cs a b t xs → Report cs' a b t xs
  report_grows a b t xs u r = record {
    covers = λ c v h lt. elim (f a t c v h) [
      | inl k ↦ r.covers c v k lt
      | inr k ↦ absurd (false≢true (sym (le_trans b (u.0).acceptor.promise c u.2 (k u.0 u.1)) ∙ lt))
    ];
    real = λ x h. let k = r.real x h in (m (cast_of a t x.ballot x.value) k.0, k.1);
  }

  pub kept_grows : (b : Ballot) (next : ℕ) (p : Promised) → KeptOk at cs b next p → KeptOk at cs' b next p
  kept_grows b next p k = record { from = k.from; from_below = k.from_below; upto = k.upto; reports = λ t h. report_grows p.inc b t p.votes k.upto (k.reports t h) }

  pub backed_grows : (b : Ballot) (t : ℕ) (v : Value) → Backed g at cs b t v → Backed g at cs' b t v
  backed_grows b t v k =
      let s = k.support in
      record {
        support = record {
          log = s.log;
          log_decided = log_grows g cs cs' m s.log s.log_decided;
          known = s.known;
          promises = s.promises;
          promised = s.promised;
          reports = λ p h. report_grows p.inc b t p.votes (k.upto p h) (s.reports p h);
          below = s.below;
          rule = s.rule;
        };
        upto = k.upto;
      }

  pub wire_grows : (i to : Inc) (x : Wire) → WireOk g at cs i to x → WireOk g at cs' i to x
  wire_grows i to (Prepare b s) h = h
  wire_grows i to (Promise b s xs) h = record { next = h.next; upto = h.upto; reports = λ t k. report_grows i b t xs h.upto (h.reports t k) }
  wire_grows i to (Accept b t v) h = m (cast_of b.inc t b v) h
  wire_grows i to (Accepted b t) h = (h.0, m (cast_of i t b h.0) h.1)
  wire_grows i to (Learn t v) h = decided_grows g cs cs' m h
  wire_grows i to (Greet x) h = greeted_grows g cs cs' m to x h
  wire_grows i to (Offer v) h = h
  wire_grows i to (Ask x) h = h
  wire_grows i to (Give x) h = h
  wire_grows i to (Alive k) h = h
  wire_grows i to Gone h = h

  pub learner_grows : (promise : Ballot) (d : Learner) (lo : ℕ) (tu : Option Turns) → LearnerOk g cs promise d lo tu → LearnerOk g cs' promise d lo tu
  learner_grows promise d lo tu k = record {
    decided = λ e h. decided_grows g cs cs' m (k.decided e h);
    low = k.low;
    slot = k.slot;
    unwelcomed = k.unwelcomed;
    turns = λ w e. let s = k.turns w e in (stands_grows g cs cs' m w s.0, s.1, s.2);
  }

  -- a leader that knows of the new votes at its ballot
  pub leader_grows : (i : Inc) (promise : Ballot) (next low : ℕ) (l : Leader)
      → ((a : Inc) (t : ℕ) (v : Value) → In (cast_of a t l.ballot v) cs' → low ≤ t → (p : Proposal) × (proposal_at l t ≡ Some p))
      → LeaderOk g at cs i promise next low l → LeaderOk g at cs' i promise next low l
  leader_grows i promise next low l kn k = record {
    mine = k.mine;
    top = k.top;
    ranked = k.ranked;
    knows = kn;
    real = λ p h. m (cast_of i p.slot l.ballot p.value) (k.real p h);
    counted = λ p h a e. m (cast_of a p.slot l.ballot p.value) (k.counted p h a e);
    promised = λ p h. kept_grows l.ballot next p (k.promised p h);
  }

-- ---- one vote more

abbrev pub voted : Inc → Vote → Cast
voted i x = record { by = i; vote = x }

abbrev pub NewVote : Group → Nodes → List Cast → Inc → Vote → Type 0
NewVote g at cs i x =
    In (cast_of x.ballot.inc x.slot x.ballot x.value) cs
    ⊎ ((x.ballot.inc ≡ i) × ((a : Inc) (v : Value) → In (cast_of a x.slot x.ballot v) cs → ⊥) × ((x.ballot ≡ first_ballot g) ⊎ Backed g at cs x.ballot x.slot x.value))

module _ (g : Group) (at : Nodes) (ws : List Message) (cs : List Cast) (ts : List Took) (i : Inc) (n : Node) (x : Vote)
    (inv : Inv g at ws cs ts) (here : at i ≡ Some n) (full : n.acceptor.promise ≡ x.ballot) (low : n.acceptor.low ≤ x.slot) (ranked : Ranked g x.ballot) (new : NewVote g at cs i x) where
  abbrev pub after_vote : List Cast
  after_vote = cs ++ voted i x ∷ []

  pub grown : More cs after_vote
  grown c h = in_left c cs (voted i x ∷ []) h

  pub fresh_vote : Fresh at cs after_vote
  fresh_vote a t b v h = elim (in_push (cast_of a t b v) cs (voted i x) h) [
    | inl k ↦ inl k
    | inr e ↦ inr (λ y hy.
        let ia : i ≡ a = ap (λ c. c.by) e in
        let xb : x.ballot ≡ b = ap (λ c. c.vote.ballot) e in
        let k : Some n ≡ Some y = sym here ∙ ap at ia ∙ hy in
        let ny : n ≡ y = cc in
        subst (λ z. ballot_lt b z.acceptor.promise ≡ false) ny (subst (λ z. ballot_lt b z ≡ false) (sym (full ∙ xb)) (lt_same b)))
  ]

  own_cast : In (cast_of x.ballot.inc x.slot x.ballot x.value) after_vote
  own_cast = elim new [
    | inl k ↦ grown (cast_of x.ballot.inc x.slot x.ballot x.value) k
    | inr k ↦ subst (λ j. In (cast_of j x.slot x.ballot x.value) after_vote) (sym k.0) (in_last cs (voted i x))
  ]

  acceptor_voted : NodeOk g at cs i n → AcceptorOk after_vote i n.acceptor.promise (put_slot (λ y. y.slot) n.acceptor.votes x) n.acceptor.low
  acceptor_voted ok = record {
    covers = λ t b v h lo. elim (in_push (cast_of i t b v) cs (voted i x) h) [
      | inl k ↦ old t b v k lo (cases_eq x.slot t)
      | inr e ↦
          let st : x.slot ≡ t = ap (λ c. c.vote.slot) e in
          let bb : x.ballot ≡ b = ap (λ c. c.vote.ballot) e in
          (x, at_slot-put_same (λ y. y.slot) n.acceptor.votes x t st, subst (λ z. ballot_lt x.ballot z ≡ false) bb (lt_same x.ballot))
    ];
    real = λ y h. elim (in_put (λ z. z.slot) n.acceptor.votes x y h) [
      | inl e ↦ subst (λ z. In (cast_of i z.slot z.ballot z.value) after_vote) e (in_last cs (voted i x))
      | inr k ↦ grown (cast_of i y.slot y.ballot y.value) (ok.acceptor.real y k)
    ];
    below = λ t b v h. elim (in_push (cast_of i t b v) cs (voted i x) h) [
      | inl k ↦ ok.acceptor.below t b v k
      | inr e ↦ let bb : x.ballot ≡ b = ap (λ c. c.vote.ballot) e in subst (λ z. ballot_lt z b ≡ false) (sym (full ∙ bb)) (lt_same b)
    ];
  }
    where
      old : (t : ℕ) (b : Ballot) (v : Value) → In (cast_of i t b v) cs → n.acceptor.low ≤ t → (x.slot ≡ t) ⊎ (x.slot ≡ t → ⊥) → (y : Vote) × (vote_at (put_slot (λ y. y.slot) n.acceptor.votes x) t ≡ Some y) × (ballot_lt y.ballot b ≡ false)
      old t b v k lo (inl e) = (x, at_slot-put_same (λ y. y.slot) n.acceptor.votes x t e, subst (λ z. ballot_lt z b ≡ false) full (ok.acceptor.below t b v k))
      old t b v k lo (inr ne) = let y = ok.acceptor.covers t b v k lo in (y.0, at_slot-put_other (λ y. y.slot) n.acceptor.votes x t ne ∙ y.1, y.2)

  acceptor_other : (j : Inc) → (i ≡ j → ⊥) → (promise : Ballot) (votes : List Vote) (lo : ℕ) → AcceptorOk cs j promise votes lo → AcceptorOk after_vote j promise votes lo
  acceptor_other j ne promise votes lo ok = record {
    covers = λ t b v h l. ok.covers t b v (back t b v h) l;
    real = λ y h. grown (cast_of j y.slot y.ballot y.value) (ok.real y h);
    below = λ t b v h. ok.below t b v (back t b v h);
  }
    where
      back : (t : ℕ) (b : Ballot) (v : Value) → In (cast_of j t b v) after_vote → In (cast_of j t b v) cs
      back t b v h = elim (in_push (cast_of j t b v) cs (voted i x) h) [ inl k ↦ k | inr e ↦ absurd (ne (ap (λ c. c.by) e)) ]

  -- a leader that isn't this node, or whose proposal this was, knows of the vote
  pub knows_more : (promise : Ballot) (next lo : ℕ) (j : Inc) (l : Leader) → LeaderOk g at cs j promise next lo l → (In (cast_of x.ballot.inc x.slot x.ballot x.value) cs ⊎ (i ≡ j → ⊥))
      → (a : Inc) (t : ℕ) (v : Value) → In (cast_of a t l.ballot v) after_vote → lo ≤ t → (p : Proposal) × (proposal_at l t ≡ Some p)
  knows_more promise next lo j l ok which a t v h lt = elim (in_push (cast_of a t l.ballot v) cs (voted i x) h) [
    | inl k ↦ ok.knows a t v k lt
    | inr e ↦
        let st : x.slot ≡ t = ap (λ c. c.vote.slot) e in
        let bb : x.ballot ≡ l.ballot = ap (λ c. c.vote.ballot) e in
        let old : In (cast_of x.ballot.inc x.slot x.ballot x.value) cs → (p : Proposal) × (proposal_at l t ≡ Some p) =
        λ k. ok.knows x.ballot.inc t x.value (subst (λ b. In (cast_of x.ballot.inc t b x.value) cs) bb (subst (λ s. In (cast_of x.ballot.inc s x.ballot x.value) cs) st k)) lt in
        elim which [
          | inl k ↦ old k
          | inr ne ↦ elim new [
            | inl k ↦ old k
            | inr k ↦ absurd (ne (sym k.0 ∙ ap (λ b. b.inc) bb ∙ ok.mine))
          ]
        ]
  ]

  abbrev pub voted_node : Option Leader → Node
  voted_node l = record n { acceptor = voting n.acceptor x; leader = l }

  module _ (lead : Option Leader) (lead_ok : (l : Leader) → lead ≡ Some l → LeaderOk g (put_node at i (voted_node lead)) after_vote i n.acceptor.promise n.learner.next n.acceptor.low l) where
    at_voted : Nodes
    at_voted = put_node at i (voted_node lead)

    pub rises_voted : Rises at (put_node at i (voted_node lead))
    rises_voted = put_rises at i n (voted_node lead) here (lt_same n.acceptor.promise) (omega arith)

    node_voted : (j : Inc) (y : Node) → put_node at i (voted_node lead) j ≡ Some y → NodeOk g (put_node at i (voted_node lead)) after_vote j y
    node_voted j y h = elim (put_cases at i (voted_node lead) j y h) [
      | inl k ↦ subst (λ z. NodeOk g (put_node at i (voted_node lead)) after_vote z y) k.0 (subst (λ z. NodeOk g (put_node at i (voted_node lead)) after_vote i z) k.1 own)
      | inr k ↦ node_rises at (put_node at i (voted_node lead)) rises_voted g after_vote j y (other k.0 (inv.nodes j y k.1))
    ]
      where
        ok : NodeOk g at cs i n
        ok = inv.nodes i n here

        own : NodeOk g (put_node at i (voted_node lead)) after_vote i (voted_node lead)
        own = record {
          me = ok.me;
          horizon = ok.horizon;
          acceptor = acceptor_voted ok;
          learner = learner_grows g at cs after_vote grown fresh_vote n.acceptor.promise n.learner n.acceptor.low n.turns ok.learner;
          leader = lead_ok;
        }

        other : inc_eq i j ≡ false → NodeOk g at cs j y → NodeOk g at after_vote j y
        other e o =
            let ne : (i ≡ j → ⊥) = (λ q. false≢true (sym e ∙ subst (λ z. inc_eq i z ≡ true) q (inc_same i))) in
            record {
              me = o.me;
              horizon = o.horizon;
              acceptor = acceptor_other j ne y.acceptor.promise y.acceptor.votes y.acceptor.low o.acceptor;
              learner = learner_grows g at cs after_vote grown fresh_vote y.acceptor.promise y.learner y.acceptor.low y.turns o.learner;
              leader = λ l q. leader_grows g at cs after_vote grown fresh_vote j y.acceptor.promise y.learner.next y.acceptor.low l (knows_more y.acceptor.promise y.learner.next y.acceptor.low j l (o.leader l q) (inr ne)) (o.leader l q);
            }

    at_proposer : (t : ℕ) (b : Ballot) (v : Value) → voted i x ≡ cast_of b.inc t b v → (x.slot ≡ t) × (x.ballot ≡ b) × (x.value ≡ v)
    at_proposer t b v e = (ap (λ c. c.vote.slot) e, ap (λ c. c.vote.ballot) e, ap (λ c. c.vote.value) e)

    moved : (t : ℕ) (b : Ballot) (v : Value) (P : ℕ → Ballot → Value → Type 0) → (x.slot ≡ t) × (x.ballot ≡ b) × (x.value ≡ v) → P x.slot x.ballot x.value → P t b v
    moved t b v P e h = subst (λ z. P t b z) e.2 (subst (λ z. P t z x.value) e.1 (subst (λ z. P z x.ballot x.value) e.0 h))

    pub voted_ok : Inv g (put_node at i (voted_node lead)) ws after_vote ts
    voted_ok = record {
      proposed = λ a t b v h. elim (in_push (cast_of a t b v) cs (voted i x) h) [
        | inl k ↦ grown (cast_of b.inc t b v) (inv.proposed a t b v k)
        | inr e ↦ moved t b v (λ t b v. In (cast_of b.inc t b v) after_vote) (ap (λ c. c.vote.slot) e, ap (λ c. c.vote.ballot) e, ap (λ c. c.vote.value) e) own_cast
      ];
      one = λ t b u v h k. one_value t b u v (in_push (cast_of b.inc t b u) cs (voted i x) h) (in_push (cast_of b.inc t b v) cs (voted i x) k);
      rounds = λ a t b v h. elim (in_push (cast_of a t b v) cs (voted i x) h) [
        | inl k ↦ inv.rounds a t b v k
        | inr e ↦ subst (λ z. Ranked g z) (ap (λ c. c.vote.ballot) e) ranked
      ];
      backed = λ t b v h. elim (backed_new t b v (in_push (cast_of b.inc t b v) cs (voted i x) h)) [
        | inl e ↦ inl e
        | inr k ↦ inr (backed_rises at (put_node at i (voted_node lead)) rises_voted g after_vote b t v (backed_grows g at cs after_vote grown fresh_vote b t v k))
      ];
      voters = λ a t b v h. elim (in_push (cast_of a t b v) cs (voted i x) h) [
        | inl k ↦ let y = inv.voters a t b v k in let z = rises_voted a y.0 y.1 in (z.0, z.1)
        | inr e ↦ (voted_node lead, subst (λ z. put_node at i (voted_node lead) z ≡ Some (voted_node lead)) (ap (λ c. c.by) e) (put_same at i (voted_node lead)))
      ];
      nodes = node_voted;
      wire = λ y h. wire_rises at (put_node at i (voted_node lead)) rises_voted g after_vote y.from y.to y.wire (wire_grows g at cs after_vote grown fresh_vote y.from y.to y.wire (inv.wire y h));
      took = λ y h. took_grows g cs after_vote grown y.taken (inv.took y h);
    }
      where
        one_value : (t : ℕ) (b : Ballot) (u v : Value) → In (cast_of b.inc t b u) cs ⊎ (voted i x ≡ cast_of b.inc t b u) → In (cast_of b.inc t b v) cs ⊎ (voted i x ≡ cast_of b.inc t b v) → u ≡ v
        one_value t b u v (inl h) (inl k) = inv.one t b u v h k
        one_value t b u v (inr e) (inr f) = sym (ap (λ c. c.vote.value) e) ∙ ap (λ c. c.vote.value) f
        one_value t b u v (inl h) (inr f) = elim new [
          | inl k ↦ inv.one t b u v h (moved t b v (λ t b v. In (cast_of b.inc t b v) cs) (at_proposer t b v f) k)
          | inr k ↦ absurd (k.1 b.inc u (subst (λ z. In (cast_of b.inc z x.ballot u) cs) (sym (ap (λ c. c.vote.slot) f)) (subst (λ z. In (cast_of b.inc t z u) cs) (sym (ap (λ c. c.vote.ballot) f)) h)))
        ]
        one_value t b u v (inr f) (inl h) = elim new [
          | inl k ↦ inv.one t b u v (moved t b u (λ t b v. In (cast_of b.inc t b v) cs) (at_proposer t b u f) k) h
          | inr k ↦ absurd (k.1 b.inc v (subst (λ z. In (cast_of b.inc z x.ballot v) cs) (sym (ap (λ c. c.vote.slot) f)) (subst (λ z. In (cast_of b.inc t z v) cs) (sym (ap (λ c. c.vote.ballot) f)) h)))
        ]

        backed_new : (t : ℕ) (b : Ballot) (v : Value) → In (cast_of b.inc t b v) cs ⊎ (voted i x ≡ cast_of b.inc t b v) → (b ≡ first_ballot g) ⊎ Backed g at cs b t v
        backed_new t b v (inl h) = inv.backed t b v h
        backed_new t b v (inr e) = elim new [
          | inl k ↦ inv.backed t b v (moved t b v (λ t b v. In (cast_of b.inc t b v) cs) (at_proposer t b v e) k)
          | inr k ↦ moved t b v (λ t b v. (b ≡ first_ballot g) ⊎ Backed g at cs b t v) (at_proposer t b v e) k.2
        ]
