-- The acts of a learner and a leader.
use Rattle.std.proofs.Common.{◌≡◌, ℕ, zero, suc, ◌+◌, ◌-◌, ◌<◌, ◌≤◌, Bool, true, false, ◌⊎◌, inl, inr, Option, Some, None, List, [], ◌∷◌, ◌++◌, length, cond, eqb, eq-eqb, ltb, refl, sym, ap, ◌∙◌, subst, arith}
use Rattle.std.specs.Prelude.{slice_get, is_some, unwrap_or}
use Rattle.std.proofs.lemmas.Bool.{false≢true, cases_eq, eqb-true, cond_both, ltb-true, or_cases, or_left, or_right}
use Rattle.std.proofs.lemmas.Option.{slice_get_within}
use Rattle.gr_ids.specs.Names.{ballot_eq, has_inc, inc_eq, inc_lt}
use Rattle.node_rules.specs.Chosen.{Cast, has_cast, cast_of}
use Rattle.node_rules.specs.Known.{config_by, config_here, members_by}
use Rattle.node_rules.specs.Leader.{Promised, has_promise, Leader, Proposal, proposal_at, keep_promise, accepted_by, count_accepted, has_majority}
use Rattle.node_rules.specs.Learner.{Learner, advanced, is_decided, learn}
use Rattle.node_rules.specs.Learning.{learns, settles, counts, hear_learn, lead_accepted, hear_accepted}
use Rattle.node_rules.specs.Lists.{In, union, others}
use Rattle.node_rules.specs.Node.{Node, message, to_others, leads, quiet}
use Rattle.node_rules.specs.Slots.{at_slot, put_slot, Entry, entry_at, first_empty}
use Rattle.node_rules.specs.World.{Took, put_node}
use Rattle.order_laws.specs.Names.{Inc, Ballot, Value, Vote, Wire, Learn, Message}
use Rattle.slot_values.specs.Log.{Group, config, majority, with_inc, Turns, config_of}
use Rattle.node_rules.proofs.Incs.{inc_is}
use Rattle.order_laws.proofs.Order.{ballot-eq, lt_same}
use Rattle.order_laws.proofs.Lists.{in_push, in_put, majority_more, has-cast, at_slot-put_same, at_slot-put_other, at_slot-slot, at_slot-in, in_map}
use Rattle.order_laws.proofs.Agree.{Decided, decided, LogDecided}
use Rattle.order_laws.proofs.Inv.{Nodes, Stands, LearnerOk, KeptOk, LeaderOk, NodeOk, PromiseOk, WireOk, MsgOk, Inv, put_same, put_twice, put_rises, leader_rises, silent}
use Rattle.order_laws.proofs.Acts.{append_nil, InvAfter, after_sends, after_quiet, safe_quiet}

-- messages to others, all with the same content
pub others_ok : (g : Group) (at : Nodes) (cs : List Cast) (i : Inc) (n : Node) (is : List Inc) (y : Wire) → n.me ≡ i → ((to : Inc) → WireOk g at cs i to y) → (x : Message) → In x (to_others n is y) → MsgOk g at cs x
others_ok g at cs i n is y e ok x h =
    let r = in_map (λ j. message n j y) (others n.me is) x h in
    subst (λ z. MsgOk g at cs z) r.2 (subst (λ z. WireOk g at cs z r.0 y) (sym e) (ok r.0))

pub with-inc : (xs : List Inc) (i a : Inc) → has_inc (with_inc xs i) a ≡ true → (i ≡ a) ⊎ (has_inc xs a ≡ true)
with-inc [] i a h = elim (or_cases (inc_eq i a) false h) [ inl e ↦ inl (inc_is i a e) | inr e ↦ absurd (false≢true e) ]
with-inc (x ∷ xs) i a h = go (inc_lt i x) (inc_eq i x) refl refl (with-inc xs i a)
  where
    go : (u v : Bool) → inc_lt i x ≡ u → inc_eq i x ≡ v → (has_inc (with_inc xs i) a ≡ true → (i ≡ a) ⊎ (has_inc xs a ≡ true)) → (i ≡ a) ⊎ (has_inc (x ∷ xs) a ≡ true)
    go true v e f r = let k : has_inc (i ∷ x ∷ xs) a ≡ true = rw e at h in elim (or_cases (inc_eq i a) (has_inc (x ∷ xs) a) k) [ inl q ↦ inl (inc_is i a q) | inr q ↦ inr q ]
    go false true e f r = let k : has_inc (x ∷ xs) a ≡ true = rw (e, f) at h in inr k
    go false false e f r =
        let k : has_inc (x ∷ with_inc xs i) a ≡ true = rw (e, f) at h in
        elim (or_cases (inc_eq x a) (has_inc (with_inc xs i) a) k) [
          | inl q ↦ inr (or_left (inc_eq x a) (has_inc xs a) q)
          | inr q ↦ elim (r q) [ inl z ↦ inl z | inr z ↦ inr (or_right (inc_eq x a) (has_inc xs a) z) ]
        ]

-- ---- the learner

first_empty_up : (f : ℕ) (ds : List Entry) (k : ℕ) → k ≤ first_empty f ds k
first_empty_up zero ds k = omega arith
first_empty_up (suc f) ds k = go (is_some (entry_at ds k)) refl (first_empty_up f ds (k + 1))
  where
    go : (u : Bool) → is_some (entry_at ds k) ≡ u → k + 1 ≤ first_empty f ds (k + 1) → k ≤ first_empty (suc f) ds k
    go true e r = rw e (omega arith)
    go false e r = rw e (omega arith)

pub advanced_up : (d : Learner) → d.next ≤ (advanced d).next
advanced_up d = cond_both (eqb d.next 0) 0 (first_empty (length d.decided) d.decided d.next) (λ z. d.next ≤ z)
    (λ e. let z : d.next ≡ 0 = eqb-true d.next 0 e in omega arith) (λ e. first_empty_up (length d.decided) d.decided d.next)

pub advanced_zero : (d : Learner) → d.next ≡ 0 → (advanced d).next ≡ 0
advanced_zero d z = rw (eq-eqb d.next 0 z)

-- what `learn` makes of an undecided slot
abbrev put_entry : Learner → ℕ → Value → Learner
put_entry d t v = record d { decided = put_slot (λ e. e.slot) d.decided (record { slot = t; value = v }) }

pub learn_up : (d : Learner) (t : ℕ) (v : Value) → d.next ≤ (learn d t v).next
learn_up d t v = cond_both (is_decided d t) d (advanced (put_entry d t v)) (λ (e : Learner). d.next ≤ e.next) (λ e. omega arith) (λ e. advanced_up (put_entry d t v))

pub learner_learns : (g : Group) (cs : List Cast) (p : Ballot) (d : Learner) (lo : ℕ) (tu : Option Turns) (t : ℕ) (v : Value) → Decided g cs t v → LearnerOk g cs p d lo tu → LearnerOk g cs p (learn d t v) lo tu
learner_learns g cs p d lo tu t v dec k =
    let up : d.next ≤ (advanced (put_entry d t v)).next = advanced_up (put_entry d t v) in
    cond_both (is_decided d t) d (advanced (put_entry d t v)) (λ (e : Learner). LearnerOk g cs p e lo tu) (λ e. k) (λ e. record {
      decided = λ y h. elim (in_put (λ x. x.slot) d.decided (record { slot = t; value = v }) y h) [ inl q ↦ subst (λ z. Decided g cs z.slot z.value) q dec | inr q ↦ k.decided y q ];
      low = k.low;
      slot = omega (arith, k.slot, up);
      unwelcomed = λ q. advanced_zero (put_entry d t v) (k.unwelcomed q);
      turns = k.turns;
    })

pub node_learns : (g : Group) (at : Nodes) (cs : List Cast) (i : Inc) (n : Node) (t : ℕ) (v : Value) → at i ≡ Some n → Decided g cs t v → NodeOk g at cs i n → NodeOk g (put_node at i (learns n t v)) cs i (learns n t v)
node_learns g at cs i n t v here d ok =
    let up : n.learner.next ≤ (learns n t v).learner.next = learn_up n.learner t v in
    record {
      me = ok.me;
      horizon = ok.horizon;
      acceptor = ok.acceptor;
      learner = learner_learns g cs n.acceptor.promise n.learner n.acceptor.low n.turns t v d ok.learner;
      leader = λ l e. leader_rises at (put_node at i (learns n t v)) (put_rises at i n (learns n t v) here (lt_same n.acceptor.promise) up) g cs i n.acceptor.promise n.learner.next (learns n t v).learner.next n.acceptor.low l up (ok.leader l e);
    }

-- a slot is decided here, and messages are sent
pub inv_learns : (g : Group) (at : Nodes) (ws : List Message) (cs : List Cast) (ts : List Took) (i : Inc) (n : Node) (t : ℕ) (v : Value) (ms : List Message) → Inv g at ws cs ts → at i ≡ Some n → Decided g cs t v
    → ((x : Message) → In x ms → MsgOk g (put_node at i (learns n t v)) cs x) → Inv g (put_node at i (learns n t v)) (ws ++ ms) cs ts
inv_learns g at ws cs ts i n t v ms inv here d msgs =
    silent g at ws cs ts i n (learns n t v) ms inv here (lt_same n.acceptor.promise) (learn_up n.learner t v) (node_learns g at cs i n t v here d (inv.nodes i n here)) msgs

pub safe_learn : (g : Group) (at : Nodes) (ws : List Message) (cs : List Cast) (ts : List Took) (i : Inc) (n : Node) (t : ℕ) (v : Value) → Inv g at ws cs ts → at i ≡ Some n → Decided g cs t v → InvAfter g at ws cs ts i (hear_learn t v n)
unfolding hear_learn
safe_learn g at ws cs ts i n t v inv here d = after_sends g at ws cs ts i (learns n t v) [] (inv_learns g at ws cs ts i n t v [] inv here d (λ x h. absurd h))

-- ---- what a node knows of a configuration

pub record Known (g : Group) (cs : List Cast) (c : List Inc) (t : ℕ) : Type 0 where
  pub log : List Value
  pub log_decided : LogDecided g cs log
  pub within : t ≤ length log + g.horizon
  pub same : c ≡ config g log t

pub known_config : (g : Group) (cs : List Cast) (p : Ballot) (d : Learner) (low : ℕ) (tu : Option Turns) (t : ℕ) (q : Inc → Bool) → LearnerOk g cs p d low tu → majority (unwrap_or (config_by tu t) []) q ≡ true → Known g cs (unwrap_or (config_by tu t) []) t
known_config g cs p d low None t q k m = absurd (false≢true m)
known_config g cs p d low (Some w) t q k m = go (ltb w.base t) refl (slice_get w.configs (t - (w.base + 1))) refl
  where
    s : Stands g cs w
    s = (k.turns w refl).0

    go : (u : Bool) → ltb w.base t ≡ u → (o : Option (List Inc)) → slice_get w.configs (t - (w.base + 1)) ≡ o → Known g cs (unwrap_or (config_by (Some w) t) []) t
    go false e o f = let z : majority [] q ≡ true = rw e at m in absurd (false≢true z)
    go true e None f = let z : majority [] q ≡ true = rw (e, f) at m in absurd (false≢true z)
    go true e (Some c) f =
        let l : t - (w.base + 1) < length w.configs = slice_get_within w.configs (t - (w.base + 1)) c f in
        let b : w.base < t = ltb-true w.base t e in
        let in_reach : t ≤ w.slot + g.horizon = omega (arith, s.room) in
        let at_t : config_of w t ≡ Some (config g s.log t) = rw e (s.configs t b in_reach) in
        record {
          log = s.log;
          log_decided = s.log_decided;
          within = omega (arith, s.slot);
          same = ap (λ o. unwrap_or o []) at_t;
        }

-- ---- the leader's state

-- the leader's state alone changes
pub inv_leads : (g : Group) (at : Nodes) (ws : List Message) (cs : List Cast) (ts : List Took) (i : Inc) (n : Node) (l : Leader) → Inv g at ws cs ts → at i ≡ Some n → LeaderOk g at cs i n.acceptor.promise n.learner.next n.acceptor.low l → Inv g (put_node at i (leads n l)) ws cs ts
inv_leads g at ws cs ts i n l inv here lok =
    subst (λ x. Inv g (put_node at i (leads n l)) x cs ts) (append_nil ws) (silent g at ws cs ts i n (leads n l) [] inv here (lt_same n.acceptor.promise) (omega arith) ok' (λ x h. absurd h))
  where
    ok : NodeOk g at cs i n
    ok = inv.nodes i n here

    lok' : LeaderOk g (put_node at i (leads n l)) cs i n.acceptor.promise n.learner.next n.acceptor.low l
    lok' = leader_rises at (put_node at i (leads n l)) (put_rises at i n (leads n l) here (lt_same n.acceptor.promise) (omega arith)) g cs i n.acceptor.promise n.learner.next n.learner.next n.acceptor.low l (omega arith) lok

    ok' : NodeOk g (put_node at i (leads n l)) cs i (leads n l)
    ok' = record {
      me = ok.me;
      horizon = ok.horizon;
      acceptor = ok.acceptor;
      learner = ok.learner;
      leader = λ k e. let q : l ≡ k = cc in subst (λ z. LeaderOk g (put_node at i (leads n l)) cs i n.acceptor.promise n.learner.next n.acceptor.low z) q lok';
    }

-- a promise is kept
pub keeps_ok : (g : Group) (at : Nodes) (cs : List Cast) (i : Inc) (n : Node) (l : Leader) (j : Inc) (s : ℕ) (xs : List Vote) → at i ≡ Some n → PromiseOk at cs j l.ballot s xs → LeaderOk g at cs i n.acceptor.promise n.learner.next n.acceptor.low l
    → LeaderOk g at cs i n.acceptor.promise n.learner.next n.acceptor.low (keep_promise l j xs)
keeps_ok g at cs i n l j s xs here pr o =
    cond_both (has_promise l.promises j) l (record l { promises = l.promises ++ new ∷ [] }) (λ (k : Leader). LeaderOk g at cs i n.acceptor.promise n.learner.next n.acceptor.low k) (λ e. o) (λ e. record {
      mine = o.mine;
      top = o.top;
      ranked = o.ranked;
      knows = o.knows;
      real = o.real;
      counted = o.counted;
      promised = λ p h. elim (in_push p l.promises new h) [ inl q ↦ o.promised p q | inr q ↦ subst (λ z. KeptOk at cs l.ballot n.learner.next z) q new_ok ];
    })
  where
    new : Promised
    new = record { inc = j; votes = xs }

    nexts : s ≤ n.learner.next
    nexts =
        let y = pr.next in
        let k : at i ≡ Some y.0 = subst (λ z. at z ≡ Some y.0) o.mine y.1 in
        let q : Some n ≡ Some y.0 = sym here ∙ k in
        let r : n ≡ y.0 = cc in
        subst (λ z. s ≤ z.learner.next) (sym r) y.2

    new_ok : KeptOk at cs l.ballot n.learner.next (record { inc = j; votes = xs })
    new_ok = record { from = s; from_below = nexts; upto = pr.upto; reports = pr.reports }

-- a proposal put in place of the one of its slot is still known
pub knows_put : (l : Leader) (q : Proposal) (t : ℕ) → (p : Proposal) × (proposal_at l t ≡ Some p) → (p : Proposal) × (at_slot (λ x. x.slot) (put_slot (λ x. x.slot) l.proposals q) t ≡ Some p)
knows_put l q t h = elim (cases_eq q.slot t) [
  | inl e ↦ (q, at_slot-put_same (λ x. x.slot) l.proposals q t e)
  | inr ne ↦ (h.0, at_slot-put_other (λ x. x.slot) l.proposals q t ne ∙ h.1)
]

pub safe_accepted : (g : Group) (at : Nodes) (ws : List Message) (cs : List Cast) (ts : List Took) (i : Inc) (n : Node) (j : Inc) (b : Ballot) (t : ℕ) → Inv g at ws cs ts → at i ≡ Some n → (v : Value) × In (cast_of j t b v) cs → InvAfter g at ws cs ts i (hear_accepted j b t n)
unfolding hear_accepted
safe_accepted g at ws cs ts i n j b t inv here vt = go n.leader refl
  where
    go : (o : Option Leader) → n.leader ≡ o → InvAfter g at ws cs ts i (lead_accepted j b t n o)
    go None e = safe_quiet g i n at ws cs ts inv here
    go (Some l) e = test (ballot_eq l.ballot b) refl
      where
        ok : NodeOk g at cs i n
        ok = inv.nodes i n here

        o : LeaderOk g at cs i n.acceptor.promise n.learner.next n.acceptor.low l
        o = ok.leader l e

        test : (u : Bool) → ballot_eq l.ballot b ≡ u → InvAfter g at ws cs ts i (lead_accepted j b t n (Some l))
        test false f = rw f (safe_quiet g i n at ws cs ts inv here)
        test true f = rw f (find (proposal_at l t) refl)
          where
            bb : l.ballot ≡ b
            bb = ballot-eq l.ballot b f

            find : (r : Option Proposal) → proposal_at l t ≡ r → InvAfter g at ws cs ts i (counts j n l r)
            find None h = safe_quiet g i n at ws cs ts inv here
            find (Some p) h = open_slot
              where
                pin : In p l.proposals
                pin = at_slot-in (λ x. x.slot) l.proposals t p h

                pt : p.slot ≡ t
                pt = at_slot-slot (λ x. x.slot) l.proposals t p h

                q : Proposal
                q = accepted_by p j

                l' : Leader
                l' = count_accepted l q

                -- who accepted voted for the leader's proposal
                by_j : In (cast_of j p.slot l.ballot p.value) cs
                by_j =
                    let c0 : In (cast_of j t l.ballot vt.0) cs = subst (λ z. In (cast_of j t z vt.0) cs) (sym bb) vt.1 in
                    let c1 : In (cast_of l.ballot.inc t l.ballot vt.0) cs = inv.proposed j t l.ballot vt.0 c0 in
                    let c2 : In (cast_of l.ballot.inc t l.ballot p.value) cs = subst (λ z. In (cast_of z t l.ballot p.value) cs) (sym o.mine) (subst (λ z. In (cast_of i z l.ballot p.value) cs) pt (o.real p pin)) in
                    let same : vt.0 ≡ p.value = inv.one t l.ballot vt.0 p.value c1 c2 in
                    subst (λ z. In (cast_of j z l.ballot p.value) cs) (sym pt) (subst (λ z. In (cast_of j t l.ballot z) cs) same c0)

                counted_q : (a : Inc) → has_inc q.accepted a ≡ true → In (cast_of a p.slot l.ballot p.value) cs
                counted_q a k = elim (with-inc p.accepted j a k) [ inl z ↦ subst (λ y. In (cast_of y p.slot l.ballot p.value) cs) z by_j | inr z ↦ o.counted p pin a z ]

                lok : LeaderOk g at cs i n.acceptor.promise n.learner.next n.acceptor.low l'
                lok = record {
                  mine = o.mine;
                  top = o.top;
                  ranked = o.ranked;
                  knows = λ a s v k lo. knows_put l q s (o.knows a s v k lo);
                  real = λ y k. elim (in_put (λ x. x.slot) l.proposals q y k) [ inl z ↦ subst (λ x. In (cast_of i x.slot l.ballot x.value) cs) z (o.real p pin) | inr z ↦ o.real y z ];
                  counted = λ y k. elim (in_put (λ x. x.slot) l.proposals q y k) [ inl z ↦ subst (λ x. (a : Inc) → has_inc x.accepted a ≡ true → In (cast_of a x.slot l.ballot x.value) cs) z counted_q | inr z ↦ o.counted y z ];
                  promised = o.promised;
                }

                m : Node
                m = leads n l'

                at1 : Nodes
                at1 = put_node at i m

                inv1 : Inv g at1 ws cs ts
                inv1 = inv_leads g at ws cs ts i n l' inv here lok

                majority_counts : (u : Bool) → majority (config_here n.turns p.slot) (has_inc q.accepted) ≡ u → InvAfter g at ws cs ts i (cond (has_majority n.turns q) (settles m p.slot p.value) (quiet m))
                majority_counts false k = rw k (after_quiet g at ws cs ts i m inv1)
                majority_counts true k = rw k (after_sends g at ws cs ts i (learns m p.slot p.value) ms (subst (λ z. Inv g z (ws ++ ms) cs ts) (put_twice at i m (learns m p.slot p.value)) (inv_learns g at1 ws cs ts i m p.slot p.value ms inv1 (put_same at i m) d said)))
                  where
                    kn : Known g cs (config_here n.turns p.slot) p.slot
                    kn = known_config g cs n.acceptor.promise n.learner n.acceptor.low n.turns p.slot (has_inc q.accepted) ok.learner k

                    d : Decided g cs p.slot p.value
                    d = decided kn.log l.ballot kn.log_decided kn.within
                        (majority_more (config g kn.log p.slot) (has_inc q.accepted) (λ a. has_cast cs (cast_of a p.slot l.ballot p.value)) (λ a z. has-cast cs (cast_of a p.slot l.ballot p.value) (counted_q a z)) (subst (λ z. majority z (has_inc q.accepted) ≡ true) kn.same k))

                    ms : List Message
                    ms = to_others m (union (config_here m.turns p.slot) (members_by n.turns)) (Learn p.slot p.value)

                    said : (x : Message) → In x ms → MsgOk g (put_node at1 i (learns m p.slot p.value)) cs x
                    said x z = others_ok g (put_node at1 i (learns m p.slot p.value)) cs i m (union (config_here m.turns p.slot) (members_by n.turns)) (Learn p.slot p.value) ok.me (λ to. d) x z

                open_slot : InvAfter g at ws cs ts i (counts j n l (Some p))
                open_slot = cond_both (is_decided n.learner p.slot) (quiet n) (cond (has_majority n.turns q) (settles m p.slot p.value) (quiet m)) (λ e. InvAfter g at ws cs ts i e) (λ e. safe_quiet g i n at ws cs ts inv here) (λ e. majority_counts (has_majority n.turns q) refl)
