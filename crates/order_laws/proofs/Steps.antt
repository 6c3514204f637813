-- A whole step of a node keeps the invariant: Alive, ticks, every message, every act.
use Rattle.std.proofs.Common.{◌≡◌, ℕ, ◌+◌, inl, inr, ◌&&◌, Option, Some, None, List, [], ◌∷◌, ltb, leb, eqb, refl, sym, subst, arith}
use Rattle.std.specs.Prelude.{filter, flat_map}
use Rattle.std.proofs.lemmas.Bool.{cond_both}
use Rattle.gr_ids.specs.Names.{has_inc, inc_eq}
use Rattle.node_rules.specs.Chosen.{Cast, cast_of}
use Rattle.node_rules.specs.Known.{members_by}
use Rattle.node_rules.specs.Leader.{Leader, Proposal, unpromised, unaccepted}
use Rattle.node_rules.specs.Learner.{is_decided}
use Rattle.node_rules.specs.Learning.{tells, learns_from, hear_alive}
use Rattle.node_rules.specs.Lists.{In}
use Rattle.node_rules.specs.Node.{Node, Effect, quiet, sends, also, message, to_others}
use Rattle.node_rules.specs.Proposing.{offers}
use Rattle.node_rules.specs.Slots.{Entry}
use Rattle.node_rules.specs.Step.{hear, row, node_step}
use Rattle.node_rules.specs.Taking.{forgets}
use Rattle.node_rules.specs.Ticks.{prepares_again, accepts_again, lead_tick, tick}
use Rattle.node_rules.specs.Voting.{gone_to}
use Rattle.node_rules.specs.World.{Took, put_node, Act, Owns, Campaigns, Ticks, Proposes, Takes, does, does_all}
use Rattle.order_laws.specs.Names.{PaxosEvent, Heard, Own, Campaign, Tick, Propose, Inc, Wire, Prepare, Promise, Accept, Accepted, Learn, Offer, Greet, Ask, Give, Alive, Gone, Message}
use Rattle.slot_values.specs.Log.{Group}
use Rattle.order_laws.proofs.Order.{lt_same}
use Rattle.order_laws.proofs.Lists.{in_append, in_map, in_filter, in_flat}
use Rattle.order_laws.proofs.Inv.{Nodes, NextFrom, LeaderOk, NodeOk, WireOk, MsgOk, Inv, put_rises, leader_rises, silent}
use Rattle.order_laws.proofs.Acts.{InvAfter, after_sends, safe_quiet, says, safe_also, gone_ok, safe_prepare, safe_accept}
use Rattle.order_laws.proofs.Leads.{others_ok, safe_learn, safe_accepted}
use Rattle.order_laws.proofs.Proposes.{safe_promise, safe_offers, safe_propose_all, safe_hear_offer, safe_own_value, safe_campaign}
use Rattle.order_laws.proofs.Takes.{safe_forgets, safe_takes, safe_welcome}

-- ---- Alive

learns_ok : (g : Group) (at : Nodes) (cs : List Cast) (i j : Inc) (n : Node) (k : ℕ) → NodeOk g at cs i n → (at' : Nodes) (x : Message) → In x (learns_from n j k) → MsgOk g at' cs x
learns_ok g at cs i j n k ok at' x h =
    let test = (λ (e : Entry). leb k e.slot && (ltb e.slot (k + 10) && ltb e.slot n.learner.next)) in
    let r = in_map (λ (e : Entry). message n j (Learn e.slot e.value)) (filter test n.learner.decided) x h in
    subst (λ z. MsgOk g at' cs z) r.2 (ok.learner.decided r.0 (in_filter test n.learner.decided r.0 r.1))

safe_alive : (g : Group) (i j : Inc) (k : ℕ) (n : Node) (at : Nodes) (ws : List Message) (cs : List Cast) (ts : List Took) → Inv g at ws cs ts → at i ≡ Some n → InvAfter g at ws cs ts i (hear_alive j k n)
unfolding hear_alive
safe_alive g i j k n at ws cs ts inv here =
    cond_both (has_inc (members_by n.turns) j) (sends m (learns_from n j k)) (sends n (gone_to n j)) (λ e. InvAfter g at ws cs ts i e)
    (λ e. after_sends g at ws cs ts i m (learns_from n j k) (silent g at ws cs ts i n m (learns_from n j k) inv here (lt_same n.acceptor.promise) (omega arith) ok' (learns_ok g at cs i j n k ok (put_node at i m))))
    (λ e. says g at ws cs ts i n (gone_to n j) inv here (gone_ok g at cs n j))
  where
    ok : NodeOk g at cs i n
    ok = inv.nodes i n here

    m : Node
    m = record n { told = tells n.told j k }

    ok' : NodeOk g (put_node at i m) cs i m
    ok' = record {
      me = ok.me;
      horizon = ok.horizon;
      acceptor = ok.acceptor;
      learner = ok.learner;
      leader = λ l e. leader_rises at (put_node at i m) (put_rises at i n m here (lt_same n.acceptor.promise) (omega arith)) g cs i n.acceptor.promise n.learner.next n.learner.next n.acceptor.low l (omega arith) (ok.leader l e);
    }

-- ---- ticks

accepts_ok : (g : Group) (at : Nodes) (cs : List Cast) (i : Inc) (n : Node) (l : Leader) → n.me ≡ i → ((p : Proposal) → In p l.proposals → In (cast_of l.ballot.inc p.slot l.ballot p.value) cs) → (x : Message) → In x (flat_map (accepts_again n l) l.proposals) → MsgOk g at cs x
accepts_ok g at cs i n l me real x h =
    let r = in_flat (accepts_again n l) l.proposals x h in
    cond_both (is_decided n.learner (r.0).slot) [] (to_others n (unaccepted n.turns r.0) (Accept l.ballot (r.0).slot (r.0).value)) (λ ms. In x ms → MsgOk g at cs x) (λ e k. absurd k)
    (λ e k. others_ok g at cs i n (unaccepted n.turns r.0) (Accept l.ballot (r.0).slot (r.0).value) me (λ to. real r.0 r.1) x k) r.2

lead_tick_ok : (g : Group) (at : Nodes) (cs : List Cast) (i : Inc) (n : Node) → at i ≡ Some n → NodeOk g at cs i n → (o : Option Leader) → n.leader ≡ o → (x : Message) → In x (lead_tick n o) → MsgOk g at cs x
lead_tick_ok g at cs i n here ok None e x h = absurd h
lead_tick_ok g at cs i n here ok (Some l) e x h = elim (in_append x (prepares_again n l) (flat_map (accepts_again n l) l.proposals) h) [
  | inl q ↦ cond_both (eqb l.ballot.round 1) [] (to_others n (unpromised n.turns l n.horizon n.learner.next) (Prepare l.ballot n.learner.next)) (λ ms. In x ms → MsgOk g at cs x) (λ f k. absurd k)
      (λ f k. others_ok g at cs i n (unpromised n.turns l n.horizon n.learner.next) (Prepare l.ballot n.learner.next) ok.me (λ to. nx) x k) q
  | inr q ↦ accepts_ok g at cs i n l ok.me (λ p j. subst (λ z. In (cast_of z p.slot l.ballot p.value) cs) (sym o.mine) (o.real p j)) x q
]
  where
    o : LeaderOk g at cs i n.acceptor.promise n.learner.next n.acceptor.low l
    o = ok.leader l e

    nx : NextFrom at l.ballot.inc n.learner.next
    nx = (n, subst (λ z. at z ≡ Some n) (sym o.mine) here, omega arith)

safe_tick : (g : Group) (i : Inc) (n : Node) (at : Nodes) (ws : List Message) (cs : List Cast) (ts : List Took) → Inv g at ws cs ts → at i ≡ Some n → InvAfter g at ws cs ts i (tick n)
unfolding tick
safe_tick g i n at ws cs ts inv here =
    safe_also g at ws cs ts i (sends n alive) rest (says g at ws cs ts i n alive inv here (λ x h. others_ok g at cs i n (members_by n.turns) (Alive n.learner.next) (inv.nodes i n here).me (λ to. tt) x h)) second
  where
    alive : List Message
    alive = to_others n (members_by n.turns) (Alive n.learner.next)

    rest : Node → Effect
    rest m = also (offers m.own m m.leader) (λ m. sends m (lead_tick m m.leader))

    third : (m : Node) (at' : Nodes) (ws' : List Message) (cs' : List Cast) (ts' : List Took) → Inv g at' ws' cs' ts' → at' i ≡ Some m → InvAfter g at' ws' cs' ts' i (sends m (lead_tick m m.leader))
    third m at' ws' cs' ts' inv' here' = says g at' ws' cs' ts' i m (lead_tick m m.leader) inv' here' (lead_tick_ok g at' cs' i m here' (inv'.nodes i m here') m.leader refl)

    second : (at' : Nodes) (ws' : List Message) (cs' : List Cast) (ts' : List Took) → Inv g at' ws' cs' ts' → at' i ≡ Some n → InvAfter g at' ws' cs' ts' i (rest n)
    second at' ws' cs' ts' inv' here' = safe_also g at' ws' cs' ts' i (offers n.own n n.leader) (λ m. sends m (lead_tick m m.leader)) (safe_offers g i n n.own at' ws' cs' ts' inv' here') (third (offers n.own n n.leader).node)

-- ---- every message

safe_hear : (g : Group) (i j : Inc) (x : Wire) (n : Node) (at : Nodes) (ws : List Message) (cs : List Cast) (ts : List Took) → WireOk g at cs j i x → Inv g at ws cs ts → at i ≡ Some n → InvAfter g at ws cs ts i (hear j x n)
unfolding hear
safe_hear g i j (Prepare b s) n at ws cs ts ok inv here = safe_prepare g at ws cs ts i n j b s inv here ok
safe_hear g i j (Promise b s xs) n at ws cs ts ok inv here = safe_promise g at ws cs ts i n j b s xs inv here ok
safe_hear g i j (Accept b t v) n at ws cs ts ok inv here = safe_accept g at ws cs ts i n j b t v inv here ok
safe_hear g i j (Accepted b t) n at ws cs ts ok inv here = safe_accepted g at ws cs ts i n j b t inv here ok
safe_hear g i j (Learn t v) n at ws cs ts ok inv here = safe_learn g at ws cs ts i n t v inv here ok
safe_hear g i j (Offer v) n at ws cs ts ok inv here = safe_hear_offer g i n v at ws cs ts inv here
safe_hear g i j (Greet x) n at ws cs ts ok inv here = safe_welcome g i x n at ws cs ts ok inv here
safe_hear g i j (Ask x) n at ws cs ts ok inv here = safe_quiet g i n at ws cs ts inv here
safe_hear g i j (Give x) n at ws cs ts ok inv here = safe_quiet g i n at ws cs ts inv here
safe_hear g i j (Alive k) n at ws cs ts ok inv here = safe_alive g i j k n at ws cs ts inv here
safe_hear g i j Gone n at ws cs ts ok inv here = safe_quiet g i n at ws cs ts inv here

-- ---- a whole step

-- what is heard was sent
abbrev EventOk : Group → Nodes → List Cast → Inc → PaxosEvent → Type 0
EventOk g at cs i (Heard m) = WireOk g at cs m.from i m.wire
EventOk g at cs i (Own v) = Unit {0}
EventOk g at cs i Campaign = Unit {0}
EventOk g at cs i Tick = Unit {0}
EventOk g at cs i Propose = Unit {0}

safe_row : (g : Group) (i : Inc) (e : PaxosEvent) (n : Node) (at : Nodes) (ws : List Message) (cs : List Cast) (ts : List Took) → EventOk g at cs i e → Inv g at ws cs ts → at i ≡ Some n → InvAfter g at ws cs ts i (row e n)
safe_row g i (Heard m) n at ws cs ts ok inv here = safe_hear g i m.from m.wire n at ws cs ts ok inv here
safe_row g i (Own v) n at ws cs ts ok inv here = safe_own_value g i n v at ws cs ts inv here
safe_row g i Campaign n at ws cs ts ok inv here = safe_campaign g i n at ws cs ts inv here
safe_row g i Tick n at ws cs ts ok inv here = safe_tick g i n at ws cs ts inv here
safe_row g i Propose n at ws cs ts ok inv here = safe_propose_all g i n at ws cs ts inv here

pub safe_step : (g : Group) (i : Inc) (e : PaxosEvent) (n : Node) (at : Nodes) (ws : List Message) (cs : List Cast) (ts : List Took) → EventOk g at cs i e → Inv g at ws cs ts → at i ≡ Some n → InvAfter g at ws cs ts i (node_step e n)
unfolding node_step
safe_step g i e n at ws cs ts ok inv here = safe_also g at ws cs ts i (row e n) forgets (safe_row g i e n at ws cs ts ok inv here) (λ at' ws' cs' ts' inv' here'. safe_forgets g i (row e n).node at' ws' cs' ts' inv' here')

-- ---- acts

pub safe_does : (g : Group) (i : Inc) (a : Act) (n : Node) (at : Nodes) (ws : List Message) (cs : List Cast) (ts : List Took) → Inv g at ws cs ts → at i ≡ Some n → InvAfter g at ws cs ts i (does i a n)
safe_does g i (Owns v) n at ws cs ts inv here =
    cond_both (inc_eq v.id.origin i) (node_step (Own v) n) (quiet n) (λ e. InvAfter g at ws cs ts i e) (λ h. safe_step g i (Own v) n at ws cs ts tt inv here) (λ h. safe_quiet g i n at ws cs ts inv here)
safe_does g i Campaigns n at ws cs ts inv here = safe_step g i Campaign n at ws cs ts tt inv here
safe_does g i Ticks n at ws cs ts inv here = safe_step g i Tick n at ws cs ts tt inv here
safe_does g i Proposes n at ws cs ts inv here = safe_step g i Propose n at ws cs ts tt inv here
safe_does g i (Takes s) n at ws cs ts inv here = safe_takes g s i n at ws cs ts inv here

pub safe_all : (g : Group) (i : Inc) (l : List Act) (n : Node) (at : Nodes) (ws : List Message) (cs : List Cast) (ts : List Took) → Inv g at ws cs ts → at i ≡ Some n → InvAfter g at ws cs ts i (does_all i l n)
safe_all g i [] n at ws cs ts inv here = safe_quiet g i n at ws cs ts inv here
safe_all g i (a ∷ l) n at ws cs ts inv here = safe_also g at ws cs ts i (does i a n) (does_all i l) (safe_does g i a n at ws cs ts inv here) (λ at' ws' cs' ts' inv' here'. safe_all g i l (does i a n).node at' ws' cs' ts' inv' here')
