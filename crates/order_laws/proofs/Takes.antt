-- A slot taken, slots forgotten, a Welcome heard or sent.
use Rattle.std.proofs.Common.{◌≡◌, ℕ, ◌+◌, ◌-◌, ◌<◌, ◌≤◌, Bool, true, false, not, inl, inr, ◌&&◌, Option, Some, None, List, [], ◌∷◌, ◌++◌, length, ltb, eqb, refl, sym, ap, ◌∙◌, subst, arith, append_assoc}
use Rattle.std.specs.Prelude.{is_some, fold, min, flat_map, option_map}
use Rattle.std.specs.List.{list_any}
use Rattle.std.proofs.lemmas.Bool.{false≢true, ltb-true, eqb-true, and_parts, not-true, cond_both}
use Rattle.gr_ids.specs.Names.{ballot_lt, inc_eq}
use Rattle.node_rules.specs.Acceptor.{forget_votes}
use Rattle.node_rules.specs.Chosen.{Cast}
use Rattle.node_rules.specs.Leader.{Leader, forget_proposals}
use Rattle.node_rules.specs.Learner.{Learner, decided_at, next_entry, forget_decided}
use Rattle.node_rules.specs.Lists.{In}
use Rattle.node_rules.specs.Node.{takes_effect, Node, Told, Effect, quiet, also}
use Rattle.node_rules.specs.Slots.{Entry}
use Rattle.node_rules.specs.Taking.{least_told, forget, forgets, take_entry, take_next, take}
use Rattle.node_rules.specs.Voting.{promises}
use Rattle.node_rules.specs.Welcoming.{Shown, is_in_order, is_for, is_recovering, told_in, higher_ballot, welcomed, hear_welcome}
use Rattle.node_rules.specs.World.{Took, put_node, casts_by, took_by, greet_by, greets, takes}
use Rattle.order_laws.specs.Names.{Taken, Inc, Ballot, Value, What, Noop, Add, Remove, Body, Joiner, Message, Welcome, WelcomeMember}
use Rattle.slot_values.specs.Log.{Group, Reading, became, Turns, config, after, turn, is_kept, has_effect, forget_configs}
use Rattle.slot_values.specs.Turns.{resumed}
use Rattle.order_laws.proofs.Order.{lt_same, lt_le, le_round}
use Rattle.order_laws.proofs.Lists.{in_left, in_push, in_from, in_flat, at_slot-slot, at_slot-in, at_slot-from}
use Rattle.order_laws.proofs.Agree.{Decided}
use Rattle.order_laws.proofs.Inv.{Nodes, TookWell, Begun, Stands, Greeted, LeaderOk, NodeOk, MsgOk, Inv, put_same, put_twice, Rises, put_rises, leader_rises, silent}
use Rattle.order_laws.proofs.Votes.{begun_grows}
use Rattle.order_laws.proofs.Acts.{append_nil, InvAfter, after_quiet, safe_quiet, safe_also, inv_same, adds, promised_ok}
use Rattle.order_laws.proofs.Leads.{advanced_up}
use Rattle.order_laws.proofs.Logs.{stands_turn, turn-slot, stands_forget, greeted, became_alike, kept_alike, effect_alike}

-- ---- forgetting

min_left : (a b : ℕ) → min a b ≤ a
min_left a b = omega arith

least_below : (ts : List Told) (k : ℕ) → fold (λ k x. min k x.slot) k ts ≤ k
least_below [] k = omega arith
least_below (x ∷ ts) k = let h = least_below ts (min k x.slot) in let m = min_left k x.slot in omega arith

some_turns : (k : ℕ) (o : Option Turns) → option_map (forget_configs k) o ≡ None → o ≡ None
some_turns k None h = refl
some_turns k (Some w) h = absurd (cc)

inv_forget : (g : Group) (i : Inc) (k : ℕ) (n : Node) (at : Nodes) (ws : List Message) (cs : List Cast) (ts : List Took) → k ≤ n.learner.slot → Inv g at ws cs ts → at i ≡ Some n → Inv g (put_node at i (forget k n)) ws cs ts
unfolding forget
inv_forget g i k n at ws cs ts handed inv here =
    cond_both (ltb n.acceptor.low k) m n (λ (x : Node). Inv g (put_node at i x) ws cs ts)
    (λ e. subst (λ z. Inv g (put_node at i m) z cs ts) (append_nil ws) (silent g at ws cs ts i n m [] inv here (lt_same n.acceptor.promise) (omega arith) (ok' (ltb-true n.acceptor.low k e)) (λ y h. absurd h)))
    (λ e. inv_same g at ws cs ts i n inv here)
  where
    ok : NodeOk g at cs i n
    ok = inv.nodes i n here

    m : Node
    m = record n { acceptor = forget_votes k n.acceptor; learner = forget_decided k n.learner; leader = option_map (forget_proposals k) n.leader; turns = option_map (forget_configs k) n.turns }

    r : Rises at (put_node at i m)
    r = put_rises at i n m here (lt_same n.acceptor.promise) (omega arith)

    lead : n.acceptor.low < k → (o : Option Leader) → n.leader ≡ o → (l : Leader) → option_map (forget_proposals k) o ≡ Some l → LeaderOk g (put_node at i m) cs i n.acceptor.promise n.learner.next k l
    lead lt None q l h = absurd (cc)
    lead lt (Some y) q l h =
        let o = ok.leader y q in
        let z : forget_proposals k y ≡ l = cc in
        let o' : LeaderOk g at cs i n.acceptor.promise n.learner.next k (forget_proposals k y) = record {
          mine = o.mine;
          top = o.top;
          ranked = o.ranked;
          knows = λ a t v j lo. let f = o.knows a t v j (omega (arith, lt, lo)) in (f.0, at_slot-from (λ p. p.slot) y.proposals k t lo ∙ f.1);
          real = λ p j. o.real p (in_from (λ p. p.slot) y.proposals k p j);
          counted = λ p j. o.counted p (in_from (λ p. p.slot) y.proposals k p j);
          promised = o.promised;
        } in
        subst (λ f. LeaderOk g (put_node at i m) cs i n.acceptor.promise n.learner.next k f) z (leader_rises at (put_node at i m) r g cs i n.acceptor.promise n.learner.next n.learner.next k (forget_proposals k y) (omega arith) o')

    turns_ok : (o : Option Turns) → n.turns ≡ o → (w : Turns) → option_map (forget_configs k) o ≡ Some w → Stands g cs w × (n.learner.slot ≡ w.slot + 1) × (1 ≤ n.acceptor.promise.round)
    turns_ok None q w h = absurd (cc)
    turns_ok (Some y) q w h =
        let s = ok.learner.turns y q in
        let z : forget_configs k y ≡ w = cc in
        let b : k ≤ y.slot + 1 = omega (arith, handed, s.1) in
        subst (λ v. Stands g cs v × (n.learner.slot ≡ v.slot + 1) × (1 ≤ n.acceptor.promise.round)) z (stands_forget g cs k y b s.0, s.1, s.2)

    ok' : n.acceptor.low < k → NodeOk g (put_node at i m) cs i m
    ok' lt = record {
      me = ok.me;
      horizon = ok.horizon;
      acceptor = record {
        covers = λ t b v h lo. let f = ok.acceptor.covers t b v h (omega (arith, lt, lo)) in (f.0, at_slot-from (λ x. x.slot) n.acceptor.votes k t lo ∙ f.1, f.2);
        real = λ x h. ok.acceptor.real x (in_from (λ x. x.slot) n.acceptor.votes k x h);
        below = ok.acceptor.below;
      };
      learner = record {
        decided = λ d h. ok.learner.decided d (in_from (λ e. e.slot) n.learner.decided k d h);
        low = handed;
        slot = ok.learner.slot;
        unwelcomed = λ q. ok.learner.unwelcomed (some_turns k n.turns q);
        turns = λ w q. turns_ok n.turns refl w q;
      };
      leader = λ l h. lead lt n.leader refl l h;
    }

-- how each event ends
pub safe_forgets : (g : Group) (i : Inc) (n : Node) (at : Nodes) (ws : List Message) (cs : List Cast) (ts : List Took) → Inv g at ws cs ts → at i ≡ Some n → InvAfter g at ws cs ts i (forgets n)
safe_forgets g i n at ws cs ts inv here = after_quiet g at ws cs ts i (forget (least_told n) n) (inv_forget g i (least_told n) n at ws cs ts (least_below n.told n.learner.slot) inv here)

-- ---- a slot taken

inv_took : (g : Group) (at : Nodes) (ws : List Message) (cs : List Cast) (ts : List Took) (x : Took) → Inv g at ws cs ts → TookWell g cs x.taken → Inv g at ws cs (ts ++ x ∷ [])
inv_took g at ws cs ts x inv d = record {
  proposed = inv.proposed;
  one = inv.one;
  rounds = inv.rounds;
  backed = inv.backed;
  voters = inv.voters;
  nodes = inv.nodes;
  wire = inv.wire;
  took = λ y h. elim (in_push y ts x h) [ inl q ↦ inv.took y q | inr q ↦ subst (λ z. TookWell g cs z.taken) q d ];
}

-- the next entry is decided, and next
pub next-entry : (d : Learner) (e : Entry) → next_entry d ≡ Some e → (d.slot < d.next) × (decided_at d d.slot ≡ Some e)
next-entry d e h = go (ltb d.slot d.next) refl
  where
    go : (u : Bool) → ltb d.slot d.next ≡ u → (d.slot < d.next) × (decided_at d d.slot ≡ Some e)
    go true q = (ltb-true d.slot d.next q, rw q at h)
    go false q = let k : None ≡ Some e = rw q at h in absurd (cc)

safe_take_next : (g : Group) (i : Inc) (n : Node) (at : Nodes) (ws : List Message) (cs : List Cast) (ts : List Took) → Inv g at ws cs ts → at i ≡ Some n → InvAfter g at ws cs ts i (take_next n n.turns (next_entry n.learner))
safe_take_next g i n at ws cs ts inv here = go n.turns refl (next_entry n.learner) refl
  where
    ok : NodeOk g at cs i n
    ok = inv.nodes i n here

    go : (o : Option Turns) → n.turns ≡ o → (p : Option Entry) → next_entry n.learner ≡ p → InvAfter g at ws cs ts i (take_next n o p)
    go None e p f = safe_quiet g i n at ws cs ts inv here
    go (Some w) e None f = safe_quiet g i n at ws cs ts inv here
    go (Some w) e (Some d) f =
        subst (λ z. Inv g (put_node at i m) (ws ++ []) z (ts ++ x ∷ [])) (sym (append_nil cs)) (inv_took g (put_node at i m) (ws ++ []) cs ts x (silent g at ws cs ts i n m [] inv here (lt_same n.acceptor.promise) (omega arith) ok' (λ y h. absurd h)) well)
      where
        m : Node
        m = (take_entry n w d).node

        x : Took
        x = record { by = i; taken = record { slot = d.slot; value = d.value; kept = became w.reading d.value } }

        next : (n.learner.slot < n.learner.next) × (decided_at n.learner n.learner.slot ≡ Some d)
        next = next-entry n.learner d f

        dec : Decided g cs d.slot d.value
        dec = ok.learner.decided d (at_slot-in (λ e. e.slot) n.learner.decided n.learner.slot d next.1)

        s : Stands g cs w × (n.learner.slot ≡ w.slot + 1) × (1 ≤ n.acceptor.promise.round)
        s = ok.learner.turns w e

        at_w : d.slot ≡ w.slot + 1
        at_w = at_slot-slot (λ e. e.slot) n.learner.decided n.learner.slot d next.1 ∙ s.1

        well : TookWell g cs x.taken
        well = record { decided = dec; log = (s.0).log; log_decided = (s.0).log_decided; slot = at_w ∙ ap (λ z. z + 1) (s.0).slot; kept = became_alike w.reading (after g (s.0).log) d.value (s.0).reading }

        s' : Stands g cs (turn w d.value)
        s' = stands_turn g cs w d.value s.0 (subst (λ z. Decided g cs z d.value) at_w dec)

        slot' : n.learner.slot + 1 ≡ (turn w d.value).slot + 1
        slot' = ap (λ z. z + 1) (s.1 ∙ sym (turn-slot w d.value))

        ok' : NodeOk g (put_node at i m) cs i m
        ok' = record {
          me = ok.me;
          horizon = ok.horizon;
          acceptor = ok.acceptor;
          learner = record {
            decided = ok.learner.decided;
            low = omega (arith, ok.learner.low);
            slot = omega (arith, next.0);
            unwelcomed = λ q. absurd (cc);
            turns = λ y q. let z : turn w d.value ≡ y = cc in subst (λ v. Stands g cs v × (n.learner.slot + 1 ≡ v.slot + 1) × (1 ≤ n.acceptor.promise.round)) z (s', slot', s.2);
          };
          leader = λ l q. leader_rises at (put_node at i m) (put_rises at i n m here (lt_same n.acceptor.promise) (omega arith)) g cs i n.acceptor.promise n.learner.next n.learner.next n.acceptor.low l (omega arith) (ok.leader l q);
        }

pub safe_take : (g : Group) (i : Inc) (n : Node) (at : Nodes) (ws : List Message) (cs : List Cast) (ts : List Took) → Inv g at ws cs ts → at i ≡ Some n → InvAfter g at ws cs ts i (take n)
unfolding take
safe_take g i n at ws cs ts inv here = safe_also g at ws cs ts i (take_next n n.turns (next_entry n.learner)) forgets (safe_take_next g i n at ws cs ts inv here) (λ at' ws' cs' ts' inv' here'. safe_forgets g i (take_next n n.turns (next_entry n.learner)).node at' ws' cs' ts' inv' here')

-- ---- the Welcome sent

kept_with_effect : (r : Reading) (v : Value) → takes_effect (became r v) ≡ true → (is_kept r v ≡ true) × (has_effect r v.what ≡ true)
kept_with_effect r v h = go (is_kept r v) refl
  where
    go : (u : Bool) → is_kept r v ≡ u → (is_kept r v ≡ true) × (has_effect r v.what ≡ true)
    go true e = (e, rw e at h)
    go false e = let k : false ≡ true = rw e at h in absurd (false≢true k)

forget-turns : (k : ℕ) (m : Node) (u : Turns) → m.turns ≡ Some u → (u' : Turns) × ((forget k m).turns ≡ Some u') × (u'.slot ≡ u.slot)
unfolding forget
forget-turns k m u h =
    cond_both (ltb m.acceptor.low k) (record m { acceptor = forget_votes k m.acceptor; learner = forget_decided k m.learner; leader = option_map (forget_proposals k) m.leader; turns = option_map (forget_configs k) m.turns }) m
    (λ (x : Node). (u' : Turns) × (x.turns ≡ Some u') × (u'.slot ≡ u.slot)) (λ e. (forget_configs k u, ap (option_map (forget_configs k)) h, refl)) (λ e. (u, h, refl))

abbrev taken_by : Node → Option Turns → Option Entry → Effect
taken_by n o p = also (take_next n o p) forgets

said_ok : (g : Group) (s : Option Shown) (i : Inc) (n : Node) (at : Nodes) (ws : List Message) (cs : List Cast) (ts : List Took) → Inv g at ws cs ts → at i ≡ Some n
    → (o : Option Turns) → n.turns ≡ o → (p : Option Entry) → next_entry n.learner ≡ p → InvAfter g at ws cs ts i (taken_by n o p)
    → (x : Message) → In x (flat_map (greets s (taken_by n o p).node) (taken_by n o p).took) → MsgOk g (put_node at i (taken_by n o p).node) (cs ++ casts_by i (taken_by n o p).cast) x
said_ok g s i n at ws cs ts inv here None e p f inv' x h = absurd h
said_ok g s i n at ws cs ts inv here (Some w) e None f inv' x h = absurd h
said_ok g s i n at ws cs ts inv here (Some w) e (Some d) f inv' x h = told (in_flat (greets s m) (t ∷ []) x h)
  where
    m : Node
    m = (taken_by n (Some w) (Some d)).node

    t : Taken
    t = record { slot = d.slot; value = d.value; kept = became w.reading d.value }

    cs' : List Cast
    cs' = cs ++ []

    ok : NodeOk g at cs i n
    ok = inv.nodes i n here

    ok' : NodeOk g (put_node at i m) cs' i m
    ok' = inv'.nodes i m (put_same at i m)

    st : Stands g cs w × (n.learner.slot ≡ w.slot + 1) × (1 ≤ n.acceptor.promise.round)
    st = ok.learner.turns w e

    next : (n.learner.slot < n.learner.next) × (decided_at n.learner n.learner.slot ≡ Some d)
    next = next-entry n.learner d f

    at_w : d.slot ≡ w.slot + 1
    at_w = at_slot-slot (λ e. e.slot) n.learner.decided n.learner.slot d next.1 ∙ st.1

    dec : Decided g cs (w.slot + 1) d.value
    dec = subst (λ z. Decided g cs z d.value) at_w (ok.learner.decided d (at_slot-in (λ e. e.slot) n.learner.decided n.learner.slot d next.1))

    u : (u : Turns) × (m.turns ≡ Some u) × (u.slot ≡ (turn w d.value).slot)
    u = forget-turns (least_told (take_entry n w d).node) (take_entry n w d).node (turn w d.value) refl

    u_slot : (u.0).slot ≡ w.slot + 1
    u_slot = u.2 ∙ turn-slot w d.value

    begun : (j : Joiner) → d.value.what ≡ Add j → takes_effect (became w.reading d.value) ≡ true → Begun g cs' j.inc (u.0).slot
    begun j a t =
        let p = kept_with_effect w.reading d.value t in
        let b : Begun g cs j.inc (w.slot + 1) = record {
          before = (st.0).log;
          before_decided = (st.0).log_decided;
          slot = ap (λ z. z + 1) (st.0).slot;
          value = d.value;
          value_decided = dec;
          joiner = j;
          adds = a;
          names = refl;
          kept = sym (kept_alike w.reading (after g (st.0).log) d.value (st.0).reading) ∙ p.0;
          effect = sym (effect_alike w.reading (after g (st.0).log) d.value.what (st.0).reading) ∙ p.1;
        } in
        subst (λ z. Begun g cs' j.inc z) (sym u_slot) (begun_grows g cs cs' (λ c k. in_left c cs [] k) j.inc (w.slot + 1) b)

    welcome : (v : Shown) → takes_effect (became w.reading d.value) ≡ true → (q : What) → d.value.what ≡ q → In x (greet_by m (Some u.0) q v) → MsgOk g (put_node at i m) cs' x
    welcome v t Noop a k = absurd k
    welcome v t (Remove j) a k = absurd k
    welcome v t (Body b) a k = absurd k
    welcome v t (Add j) a k =
        let l = ok'.learner.turns u.0 u.1 in
        elim k [
          | inl q ↦ subst (λ z. MsgOk g (put_node at i m) cs' z) q (greeted g cs' j.inc m u.0 v l.2 l.0 (begun j a t))
          | inr q ↦ absurd q
        ]

    shown : (s : Option Shown) → In x (greets s m t) → MsgOk g (put_node at i m) cs' x
    shown None k = absurd k
    shown (Some v) k =
        cond_both (takes_effect (became w.reading d.value)) (greet_by m m.turns d.value.what v) [] (λ l. In x l → MsgOk g (put_node at i m) cs' x)
        (λ t z. welcome v t d.value.what refl (subst (λ o. In x (greet_by m o d.value.what v)) u.1 z)) (λ t z. absurd z) k

    told : (y : Taken) × In y (t ∷ []) × In x (greets s m y) → MsgOk g (put_node at i m) cs' x
    told r = elim r.1 [ inl q ↦ shown s (subst (λ y. In x (greets s m y)) (sym q) r.2) | inr q ↦ absurd q ]

pub safe_takes : (g : Group) (s : Option Shown) (i : Inc) (n : Node) (at : Nodes) (ws : List Message) (cs : List Cast) (ts : List Took) → Inv g at ws cs ts → at i ≡ Some n → InvAfter g at ws cs ts i (takes s n)
unfolding take
safe_takes g s i n at ws cs ts inv here =
    let e : Effect = also (take_next n n.turns (next_entry n.learner)) forgets in
    let ms : List Message = flat_map (greets s e.node) e.took in
    let inv' : InvAfter g at ws cs ts i e = safe_take g i n at ws cs ts inv here in
    let k = adds g (put_node at i e.node) (ws ++ e.sent) (cs ++ casts_by i e.cast) (ts ++ took_by i e.took) i e.node ms inv' (put_same at i e.node) (said_ok g s i n at ws cs ts inv here n.turns refl (next_entry n.learner) refl inv') in
    subst (λ z. Inv g (put_node at i e.node) z (cs ++ casts_by i e.cast) (ts ++ took_by i e.took)) (append_assoc ws e.sent ms) k

-- ---- the Welcome heard

higher_up : (a b : Ballot) → ballot_lt (higher_ballot a b) a ≡ false
higher_up a b = go (ballot_lt a b) refl
  where
    go : (u : Bool) → ballot_lt a b ≡ u → ballot_lt (higher_ballot a b) a ≡ false
    go true e = rw e (lt_le a b e)
    go false e = rw e (lt_same a)

higher_round : (a b : Ballot) → 1 ≤ b.round → 1 ≤ (higher_ballot a b).round
higher_round a b h = go (ballot_lt a b) refl
  where
    go : (u : Bool) → ballot_lt a b ≡ u → 1 ≤ (higher_ballot a b).round
    go true e = rw e h
    go false e = let k : b.round ≤ a.round = le_round b a e in rw e (omega arith)

pub is_none : {A : Type 0} (o : Option A) → is_some o ≡ false → o ≡ None
is_none None h = refl
is_none (Some y) h = absurd (false≢true (sym h))

pub safe_welcome : (g : Group) (i : Inc) (x : Welcome) (n : Node) (at : Nodes) (ws : List Message) (cs : List Cast) (ts : List Took) → Greeted g cs i x → Inv g at ws cs ts → at i ≡ Some n → InvAfter g at ws cs ts i (hear_welcome x n)
unfolding hear_welcome
safe_welcome g i x n at ws cs ts gr inv here = cond_both (not (is_some n.turns) && (is_in_order x && is_for x n.me n.horizon)) (quiet (welcomed n x)) (quiet n) (λ e. InvAfter g at ws cs ts i e) enters (λ e. safe_quiet g i n at ws cs ts inv here)
  where
    ok : NodeOk g at cs i n
    ok = inv.nodes i n here

    enters : (not (is_some n.turns) && (is_in_order x && is_for x n.me n.horizon)) ≡ true → InvAfter g at ws cs ts i (quiet (welcomed n x))
    enters e = after_quiet g at ws cs ts i m (subst (λ z. Inv g z ws cs ts) (put_twice at i m0 m) (subst (λ z. Inv g (put_node at0 i m) z cs ts) (append_nil ws) (silent g at0 ws cs ts i m0 m [] inv0 here0 (lt_same hb) nx ok' (λ y h. absurd h))))
      where
        p : (not (is_some n.turns) ≡ true) × ((is_in_order x && is_for x n.me n.horizon) ≡ true)
        p = and_parts (not (is_some n.turns)) (is_in_order x && is_for x n.me n.horizon) e

        none : n.turns ≡ None
        none = is_none n.turns (not-true (is_some n.turns) p.0)

        len : length x.configs ≡ n.horizon
        len =
            let q = (and_parts (is_in_order x) (is_for x n.me n.horizon) p.1).1 in
            eqb-true (length x.configs) n.horizon (and_parts (eqb (length x.configs) n.horizon) (list_any {X = WelcomeMember} (λ m. inc_eq m.joiner.inc n.me && is_recovering m.state) x.members) q).0

        hb : Ballot
        hb = higher_ballot n.acceptor.promise x.promise

        m0 : Node
        m0 = promises n hb

        at0 : Nodes
        at0 = put_node at i m0

        here0 : at0 i ≡ Some m0
        here0 = put_same at i m0

        ok0 : NodeOk g at0 cs i m0
        ok0 = promised_ok g at cs i n hb here (higher_up n.acceptor.promise x.promise) ok

        inv0 : Inv g at0 ws cs ts
        inv0 = subst (λ z. Inv g at0 z cs ts) (append_nil ws) (silent g at ws cs ts i n m0 [] inv here (higher_up n.acceptor.promise x.promise) (omega arith) ok0 (λ y h. absurd h))

        m : Node
        m = welcomed n x

        zero_next : n.learner.next ≡ 0
        zero_next = ok.learner.unwelcomed none

        up : x.slot + 1 ≤ m.learner.next
        up = advanced_up (record n.learner { slot = x.slot + 1; next = x.slot + 1 })

        nx : m0.learner.next ≤ m.learner.next
        nx = omega (arith, zero_next, up)

        low_m : n.acceptor.low ≤ x.slot + 1
        low_m = omega (arith, ok.learner.low, ok.learner.slot, zero_next)

        stands : Stands g cs (resumed (told_in x))
        stands = record {
          log = gr.log;
          log_decided = gr.log_decided;
          slot = gr.slot;
          reading = gr.reading;
          base = omega arith;
          room = omega (arith, len, ok.horizon);
          configs = λ t b h.
              let c = gr.configs (t - (x.slot + 1)) (omega arith) in
              let r : x.slot + ((t - (x.slot + 1)) + 1) ≡ t = omega arith in
              c ∙ ap (λ z. Some (config g gr.log z)) r;
        }

        ok' : NodeOk g (put_node at0 i m) cs i m
        ok' = record {
          me = ok0.me;
          horizon = ok0.horizon;
          acceptor = ok0.acceptor;
          learner = record {
            decided = ok0.learner.decided;
            low = low_m;
            slot = up;
            unwelcomed = λ q. absurd (cc);
            turns = λ y q. let z : resumed (told_in x) ≡ y = cc in subst (λ v. Stands g cs v × (x.slot + 1 ≡ v.slot + 1) × (1 ≤ hb.round)) z (stands, refl, higher_round n.acceptor.promise x.promise gr.round);
          };
          leader = λ l q. leader_rises at0 (put_node at0 i m) (put_rises at0 i m0 m here0 (lt_same hb) nx) g cs i hb m0.learner.next m.learner.next n.acceptor.low l nx (ok0.leader l q);
        }
