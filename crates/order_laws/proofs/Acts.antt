-- Acts one after another, and the acts of an acceptor.
use Rattle.std.proofs.Common.{◌≡◌, ℕ, ◌≤◌, Bool, true, false, not, inl, inr, ◌&&◌, Option, Some, None, List, [], ◌∷◌, ◌++◌, ltb, refl, sym, ap, ◌∙◌, subst, arith, append_assoc}
use Rattle.std.specs.Prelude.{map}
use Rattle.std.proofs.lemmas.Bool.{ltb-false}
use mathlib.Core.Path.{fun_ext}
use Rattle.gr_ids.specs.Names.{ballot_lt, has_inc, inc_eq}
use Rattle.node_rules.specs.Chosen.{Cast, cast_of}
use Rattle.node_rules.specs.Known.{ever_by, members_by}
use Rattle.node_rules.specs.Acceptor.{votes_from}
use Rattle.node_rules.specs.Leader.{vote_at, Leader}
use Rattle.node_rules.specs.Lists.{In}
use Rattle.node_rules.specs.Node.{message, Node, Effect, quiet, sends, also}
use Rattle.node_rules.specs.Learner.{Learner}
use Rattle.node_rules.specs.Slots.{from_slot}
use Rattle.node_rules.specs.Voting.{promises, votes, still_leads, gone_to, hear_prepare, hear_accept}
use Rattle.node_rules.specs.World.{Took, put_node, casts_by, took_by}
use Rattle.order_laws.specs.Names.{Inc, Ballot, Value, Vote, Promise, Accepted, Gone, Message}
use Rattle.slot_values.specs.Log.{Group, Turns}
use Rattle.node_rules.proofs.Incs.{inc_is}
use Rattle.order_laws.proofs.Order.{lt_same, le_trans, le_round, le_both}
use Rattle.order_laws.proofs.Lists.{in_last, at_slot-from, at_slot-slot, at_slot-in}
use Rattle.order_laws.proofs.Agree.{Report}
use Rattle.order_laws.proofs.Inv.{Nodes, NextFrom, Ranked, AcceptorOk, LearnerOk, LeaderOk, NodeOk, PromiseOk, MsgOk, Inv, put_same, put_twice, put_rises, next_rises, leader_rises, silent}
use Rattle.order_laws.proofs.Votes.{voted, voted_ok, grown, fresh_vote, knows_more, leader_grows}

pub append_nil : {A : Type 0} (xs : List A) → xs ++ [] ≡ xs
append_nil [] = refl
append_nil (x ∷ xs) = ap (λ ys. x ∷ ys) (append_nil xs)

pub map_append : {A B : Type 0} (f : A → B) (xs ys : List A) → map f (xs ++ ys) ≡ map f xs ++ map f ys
map_append f [] ys = refl
map_append f (x ∷ xs) ys = ap (λ zs. f x ∷ zs) (map_append f xs ys)

pub put_here : (at : Nodes) (i : Inc) (n : Node) → at i ≡ Some n → put_node at i n ≡ at
put_here at i n h = fun_ext (λ j. go j (inc_eq i j) refl)
  where
    go : (j : Inc) (b : Bool) → inc_eq i j ≡ b → put_node at i n j ≡ at j
    go j true e = rw e (sym h ∙ ap at (inc_is i j e))
    go j false e = rw e

-- the invariant holds once this incarnation did the act
abbrev pub InvAfter : Group → Nodes → List Message → List Cast → List Took → Inc → Effect → Type 0
InvAfter g at ws cs ts i e = Inv g (put_node at i e.node) (ws ++ e.sent) (cs ++ casts_by i e.cast) (ts ++ took_by i e.took)

-- an act keeps the invariant, in each world where the incarnation's node is so
abbrev pub Safe : Group → Inc → Node → Effect → Type 0
Safe g i n e = (at : Nodes) (ws : List Message) (cs : List Cast) (ts : List Took) → Inv g at ws cs ts → at i ≡ Some n → InvAfter g at ws cs ts i e

pub after_sends : (g : Group) (at : Nodes) (ws : List Message) (cs : List Cast) (ts : List Took) (i : Inc) (m : Node) (ms : List Message) → Inv g (put_node at i m) (ws ++ ms) cs ts → InvAfter g at ws cs ts i (sends m ms)
after_sends g at ws cs ts i m ms inv =
    subst (λ x. Inv g (put_node at i m) (ws ++ ms) x (ts ++ [])) (sym (append_nil cs)) (subst (λ x. Inv g (put_node at i m) (ws ++ ms) cs x) (sym (append_nil ts)) inv)

pub after_quiet : (g : Group) (at : Nodes) (ws : List Message) (cs : List Cast) (ts : List Took) (i : Inc) (m : Node) → Inv g (put_node at i m) ws cs ts → InvAfter g at ws cs ts i (quiet m)
after_quiet g at ws cs ts i m inv = after_sends g at ws cs ts i m [] (subst (λ x. Inv g (put_node at i m) x cs ts) (sym (append_nil ws)) inv)

pub safe_quiet : (g : Group) (i : Inc) (n : Node) → Safe g i n (quiet n)
safe_quiet g i n at ws cs ts inv here = after_quiet g at ws cs ts i n (subst (λ x. Inv g x ws cs ts) (sym (put_here at i n here)) inv)

pub inv_same : (g : Group) (at : Nodes) (ws : List Message) (cs : List Cast) (ts : List Took) (i : Inc) (n : Node) → Inv g at ws cs ts → at i ≡ Some n → Inv g (put_node at i n) ws cs ts
inv_same g at ws cs ts i n inv here = subst (λ x. Inv g x ws cs ts) (sym (put_here at i n here)) inv

-- an act on a node that was changed before
pub rebase : (g : Group) (at : Nodes) (ws : List Message) (cs : List Cast) (ts : List Took) (i : Inc) (m : Node) (e : Effect) → InvAfter g (put_node at i m) ws cs ts i e → InvAfter g at ws cs ts i e
rebase g at ws cs ts i m e inv = subst (λ x. Inv g x (ws ++ e.sent) (cs ++ casts_by i e.cast) (ts ++ took_by i e.took)) (put_twice at i m e.node) inv

-- messages alone
pub adds : (g : Group) (at : Nodes) (ws : List Message) (cs : List Cast) (ts : List Took) (i : Inc) (n : Node) (ms : List Message) → Inv g at ws cs ts → at i ≡ Some n → ((x : Message) → In x ms → MsgOk g at cs x) → Inv g at (ws ++ ms) cs ts
adds g at ws cs ts i n ms inv here ok =
    subst (λ x. Inv g x (ws ++ ms) cs ts) (put_here at i n here) (silent g at ws cs ts i n n ms inv here (lt_same n.acceptor.promise) (omega arith)
    (subst (λ x. NodeOk g x cs i n) (sym (put_here at i n here)) (inv.nodes i n here))
    (λ x h. subst (λ y. MsgOk g y cs x) (sym (put_here at i n here)) (ok x h)))

pub says : (g : Group) (at : Nodes) (ws : List Message) (cs : List Cast) (ts : List Took) (i : Inc) (n : Node) (ms : List Message) → Inv g at ws cs ts → at i ≡ Some n → ((x : Message) → In x ms → MsgOk g at cs x) → InvAfter g at ws cs ts i (sends n ms)
says g at ws cs ts i n ms inv here ok =
    after_sends g at ws cs ts i n ms (subst (λ x. Inv g x (ws ++ ms) cs ts) (sym (put_here at i n here)) (adds g at ws cs ts i n ms inv here ok))

-- one act after another
pub safe_also : (g : Group) (at : Nodes) (ws : List Message) (cs : List Cast) (ts : List Took) (i : Inc) (e : Effect) (f : Node → Effect) → InvAfter g at ws cs ts i e
    → ((at' : Nodes) (ws' : List Message) (cs' : List Cast) (ts' : List Took) → Inv g at' ws' cs' ts' → at' i ≡ Some e.node → InvAfter g at' ws' cs' ts' i (f e.node))
    → InvAfter g at ws cs ts i (also e f)
safe_also g at ws cs ts i e f inv next =
    let k = next (put_node at i e.node) (ws ++ e.sent) (cs ++ casts_by i e.cast) (ts ++ took_by i e.took) inv (put_same at i e.node) in
    let n : Node = (f e.node).node in
    let a = (λ (x : Nodes). Inv g x ((ws ++ e.sent) ++ (f e.node).sent) ((cs ++ casts_by i e.cast) ++ casts_by i (f e.node).cast) ((ts ++ took_by i e.took) ++ took_by i (f e.node).took)) in
    let b = (λ (x : List Message). Inv g (put_node at i n) x ((cs ++ casts_by i e.cast) ++ casts_by i (f e.node).cast) ((ts ++ took_by i e.took) ++ took_by i (f e.node).took)) in
    let c = (λ (x : List Cast). Inv g (put_node at i n) (ws ++ (e.sent ++ (f e.node).sent)) x ((ts ++ took_by i e.took) ++ took_by i (f e.node).took)) in
    let d = (λ (x : List Took). Inv g (put_node at i n) (ws ++ (e.sent ++ (f e.node).sent)) (cs ++ casts_by i (e.cast ++ (f e.node).cast)) x) in
    let k1 = subst a (put_twice at i e.node n) k in
    let k2 = subst b (append_assoc ws e.sent (f e.node).sent) k1 in
    let k3 = subst c (append_assoc cs (casts_by i e.cast) (casts_by i (f e.node).cast) ∙ ap (λ x. cs ++ x) (sym (map_append (λ x. voted i x) e.cast (f e.node).cast))) k2 in
    subst d (append_assoc ts (took_by i e.took) (took_by i (f e.node).took) ∙ ap (λ x. ts ++ x) (sym (map_append (λ x. record { by = i; taken = x }) e.took (f e.node).took))) k3

-- ---- the acceptor

pub acceptor_up : (cs : List Cast) (i : Inc) (p b : Ballot) (xs : List Vote) (low : ℕ) → ballot_lt b p ≡ false → AcceptorOk cs i p xs low → AcceptorOk cs i b xs low
acceptor_up cs i p b xs low h k = record { covers = k.covers; real = k.real; below = λ t c v j. le_trans c p b (k.below t c v j) h }

pub learner_up : (g : Group) (cs : List Cast) (p b : Ballot) (d : Learner) (low : ℕ) (tu : Option Turns) → ballot_lt b p ≡ false → LearnerOk g cs p d low tu → LearnerOk g cs b d low tu
learner_up g cs p b d low tu h k = record {
  decided = k.decided;
  low = k.low;
  slot = k.slot;
  unwelcomed = k.unwelcomed;
  turns = λ w e. let s = k.turns w e in let r : p.round ≤ b.round = le_round p b h in (s.0, s.1, omega (arith, s.2));
}

-- what a node's own votes report
pub report_own : (cs : List Cast) (i : Inc) (p b : Ballot) (xs : List Vote) (low s t : ℕ) → AcceptorOk cs i p xs low → low ≤ s → s ≤ t → ballot_lt b p ≡ false → Report cs i b t (from_slot (λ x. x.slot) xs s)
report_own cs i p b xs low s t k ls st h = record {
  covers = λ c v j lt. let x = k.covers t c v j (omega arith) in (x.0, at_slot-from (λ x. x.slot) xs s t st ∙ x.1, x.2);
  real = λ x e.
      let q : vote_at xs t ≡ Some x = sym (at_slot-from (λ x. x.slot) xs s t st) ∙ e in
      let r : x.slot ≡ t = at_slot-slot (λ x. x.slot) xs t x q in
      let y : In (cast_of i x.slot x.ballot x.value) cs = k.real x (at_slot-in (λ x. x.slot) xs t x q) in
      (subst (λ z. In (cast_of i z x.ballot x.value) cs) r y, le_trans x.ballot p b (k.below x.slot x.ballot x.value y) h);
}

pub still_led : (b : Ballot) (o : Option Leader) (l : Leader) → still_leads b o ≡ Some l → (o ≡ Some l) × (ballot_lt l.ballot b ≡ false)
still_led b None l h = cc
still_led b (Some k) l h = go (ballot_lt k.ballot b) refl
  where
    go : (v : Bool) → ballot_lt k.ballot b ≡ v → (Some k ≡ Some l) × (ballot_lt l.ballot b ≡ false)
    go true e = let q : None ≡ Some l = rw e at h in cc
    go false e = let q : Some k ≡ Some l = rw e at h in let r : k ≡ l = cc in (q, subst (λ z. ballot_lt z.ballot b ≡ false) r e)

-- the promise rises to b
pub promised_ok : (g : Group) (at : Nodes) (cs : List Cast) (i : Inc) (n : Node) (b : Ballot) → at i ≡ Some n → ballot_lt b n.acceptor.promise ≡ false → NodeOk g at cs i n → NodeOk g (put_node at i (promises n b)) cs i (promises n b)
promised_ok g at cs i n b here h ok = record {
  me = ok.me;
  horizon = ok.horizon;
  acceptor = acceptor_up cs i n.acceptor.promise b n.acceptor.votes n.acceptor.low h ok.acceptor;
  learner = learner_up g cs n.acceptor.promise b n.learner n.acceptor.low n.turns h ok.learner;
  leader = λ l e.
      let k = still_led b n.leader l e in
      let o = ok.leader l k.0 in
      let top : b ≡ l.ballot = le_both b l.ballot (subst (λ z. ballot_lt b z ≡ false) o.top h) k.1 in
      let o' : LeaderOk g at cs i b n.learner.next n.acceptor.low l = record { mine = o.mine; top = top; ranked = o.ranked; knows = o.knows; real = o.real; counted = o.counted; promised = o.promised } in
      leader_rises at (put_node at i (promises n b)) (put_rises at i n (promises n b) here h (omega arith)) g cs i b n.learner.next n.learner.next n.acceptor.low l (omega arith) o';
}

pub gone_ok : (g : Group) (at : Nodes) (cs : List Cast) (n : Node) (i : Inc) (x : Message) → In x (gone_to n i) → MsgOk g at cs x
gone_ok g at cs n i x h = go (has_inc (ever_by n.turns) i && not (has_inc (members_by n.turns) i)) refl
  where
    go : (v : Bool) → (has_inc (ever_by n.turns) i && not (has_inc (members_by n.turns) i)) ≡ v → MsgOk g at cs x
    go true e = let k : In x (message n i Gone ∷ []) = rw e at h in elim k [ inl q ↦ subst (λ z. MsgOk g at cs z) q tt | inr q ↦ absurd q ]
    go false e = let k : In x [] = rw e at h in absurd k

pub safe_prepare : (g : Group) (at : Nodes) (ws : List Message) (cs : List Cast) (ts : List Took) (i : Inc) (n : Node) (j : Inc) (b : Ballot) (s : ℕ) → Inv g at ws cs ts → at i ≡ Some n → NextFrom at b.inc s → InvAfter g at ws cs ts i (hear_prepare j b s n)
unfolding hear_prepare
safe_prepare g at ws cs ts i n j b s inv here nx = go (ltb s n.acceptor.low) (ballot_lt b n.acceptor.promise) refl refl
  where
    ok : NodeOk g at cs i n
    ok = inv.nodes i n here

    go : (u v : Bool) → ltb s n.acceptor.low ≡ u → ballot_lt b n.acceptor.promise ≡ v → InvAfter g at ws cs ts i (hear_prepare j b s n)
    go true v e f = rw e (says g at ws cs ts i n (gone_to n j) inv here (gone_ok g at cs n j))
    go false true e f = rw (e, f) (safe_quiet g i n at ws cs ts inv here)
    go false false e f = rw (e, f) (after_sends g at ws cs ts i m ms (silent g at ws cs ts i n m ms inv here f (omega arith) (promised_ok g at cs i n b here f ok) msgs))
      where
        m : Node
        m = promises n b

        msg : Message
        msg = message n j (Promise b s (votes_from n.acceptor s))

        ms : List Message
        ms = msg ∷ []

        ls : n.acceptor.low ≤ s
        ls = ltb-false s n.acceptor.low e

        pr : PromiseOk (put_node at i m) cs i b s (from_slot (λ x. x.slot) n.acceptor.votes s)
        pr = record {
          next = next_rises at (put_node at i m) (put_rises at i n m here f (omega arith)) b.inc s nx;
          upto = (m, put_same at i m, lt_same b);
          reports = λ t st. report_own cs i n.acceptor.promise b n.acceptor.votes n.acceptor.low s t ok.acceptor ls st f;
        }

        msgs : (x : Message) → In x ms → MsgOk g (put_node at i m) cs x
        msgs x h = elim h [ inl q ↦ subst (λ z. MsgOk g (put_node at i m) cs z) q (subst (λ z. PromiseOk (put_node at i m) cs z b s (from_slot (λ x. x.slot) n.acceptor.votes s)) (sym ok.me) pr) | inr q ↦ absurd q ]

pub safe_accept : (g : Group) (at : Nodes) (ws : List Message) (cs : List Cast) (ts : List Took) (i : Inc) (n : Node) (j : Inc) (b : Ballot) (t : ℕ) (v : Value) → Inv g at ws cs ts → at i ≡ Some n → In (cast_of b.inc t b v) cs → InvAfter g at ws cs ts i (hear_accept j b t v n)
unfolding hear_accept
safe_accept g at ws cs ts i n j b t v inv here pr = go (ltb t n.acceptor.low) (ballot_lt b n.acceptor.promise) refl refl
  where
    ok : NodeOk g at cs i n
    ok = inv.nodes i n here

    go : (u w : Bool) → ltb t n.acceptor.low ≡ u → ballot_lt b n.acceptor.promise ≡ w → InvAfter g at ws cs ts i (hear_accept j b t v n)
    go true w e f = rw e (says g at ws cs ts i n (gone_to n j) inv here (gone_ok g at cs n j))
    go false true e f = rw (e, f) (safe_quiet g i n at ws cs ts inv here)
    go false false e0 f = rw (e0, f) done
      where
        n1 : Node
        n1 = promises n b

        at1 : Nodes
        at1 = put_node at i n1

        ok1 : NodeOk g at1 cs i n1
        ok1 = promised_ok g at cs i n b here f ok

        inv1 : Inv g at1 ws cs ts
        inv1 = subst (λ x. Inv g at1 x cs ts) (append_nil ws) (silent g at ws cs ts i n n1 [] inv here f (omega arith) ok1 (λ x h. absurd h))

        x : Vote
        x = record { slot = t; ballot = b; value = v }

        m : Node
        m = votes n1 x

        cs' : List Cast
        cs' = cs ++ voted i x ∷ []

        ranked : Ranked g b
        ranked = inv.rounds b.inc t b v pr

        lead : (l : Leader) → n1.leader ≡ Some l → LeaderOk g (put_node at1 i m) cs' i n1.acceptor.promise n1.learner.next n1.acceptor.low l
        lead l e =
            let o = ok1.leader l e in
            let here1 : at1 i ≡ Some n1 = put_same at i n1 in
            let low : n1.acceptor.low ≤ t = ltb-false t n.acceptor.low e0 in
            leader_rises at1 (put_node at1 i m) (put_rises at1 i n1 m here1 (lt_same b) (omega arith)) g cs' i b n.learner.next n.learner.next n.acceptor.low l (omega arith)
            (leader_grows g at1 cs cs' (grown g at1 ws cs ts i n1 x inv1 here1 refl low ranked (inl pr)) (fresh_vote g at1 ws cs ts i n1 x inv1 here1 refl low ranked (inl pr)) i b n.learner.next n.acceptor.low l
            (knows_more g at1 ws cs ts i n1 x inv1 here1 refl low ranked (inl pr) b n.learner.next n.acceptor.low i l o (inl pr)) o)

        inv2 : Inv g (put_node at1 i m) ws cs' ts
        inv2 = voted_ok g at1 ws cs ts i n1 x inv1 (put_same at i n1) refl (ltb-false t n.acceptor.low e0) ranked (inl pr) n1.leader lead

        done : InvAfter g at ws cs ts i (record { node = m; sent = record { from = n.me; to = j; wire = Accepted b t } ∷ []; cast = x ∷ []; took = [] })
        done =
            let inv3 : Inv g (put_node at i m) ws cs' ts = subst (λ z. Inv g z ws cs' ts) (put_twice at i n1 m) inv2 in
            let msg : Message = record { from = n.me; to = j; wire = Accepted b t } in
            let said : (y : Message) → In y (msg ∷ []) → MsgOk g (put_node at i m) cs' y = λ y h. elim h [
              | inl q ↦ subst (λ z. MsgOk g (put_node at i m) cs' z) q (v, subst (λ z. In (cast_of z t b v) cs') (sym ok.me) (in_last cs (voted i x)))
              | inr q ↦ absurd q
            ] in
            subst (λ z. Inv g (put_node at i m) (ws ++ msg ∷ []) cs' z) (sym (append_nil ts)) (adds g (put_node at i m) ws cs' ts i m (msg ∷ []) inv3 (put_same at i m) said)
