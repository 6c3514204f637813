-- What holds of every world: the invariant, and how it is kept by a step that casts no vote.
use Rattle.std.proofs.Common.{◌≡◌, ℕ, ◌+◌, ◌-◌, ◌<◌, ◌≤◌, Bool, true, false, ◌⊎◌, inl, inr, Option, Some, None, List, ◌++◌, length, refl, sym, ap, ◌∙◌, subst, arith}
use Rattle.std.specs.Prelude.{slice_get}
use mathlib.Core.Path.{fun_ext}
use Rattle.gr_ids.specs.Names.{ballot_lt, has_inc, inc_eq}
use Rattle.node_rules.specs.Chosen.{Cast, cast_of}
use Rattle.node_rules.specs.Leader.{vote_at, Promised, Leader, Proposal, proposal_at}
use Rattle.node_rules.specs.Lists.{In}
use Rattle.node_rules.specs.Node.{Node, first_ballot}
use Rattle.node_rules.specs.Learner.{Learner}
use Rattle.node_rules.specs.Slots.{Entry}
use Rattle.node_rules.specs.Welcoming.{told_in}
use Rattle.node_rules.specs.World.{Took, put_node}
use Rattle.order_laws.specs.Names.{Taken, Inc, Ballot, Value, Joiner, Add, Vote, Welcome, Wire, Prepare, Promise, Accept, Accepted, Learn, Offer, Greet, Ask, Give, Alive, Gone, Message}
use Rattle.slot_values.specs.Log.{Group, config, after, became, is_kept, has_effect, Turns, Reading}
use Rattle.slot_values.specs.Turns.{resumed}
use Rattle.node_rules.proofs.Incs.{inc_is, inc_same}
use Rattle.order_laws.proofs.Order.{lt_same, le_trans}
use Rattle.order_laws.proofs.Lists.{in_append}
use Rattle.order_laws.proofs.Agree.{Decided, LogDecided, Report, Supported, Sound}

abbrev pub Nodes : Type 0
Nodes = Inc → Option Node

-- this incarnation's promise is at or above the ballot
abbrev pub Upto : Nodes → Inc → Ballot → Type 0
Upto at a b = (n : Node) × (at a ≡ Some n) × (ballot_lt n.acceptor.promise b ≡ false)

-- this incarnation's next slot is at or above s
abbrev pub NextFrom : Nodes → Inc → ℕ → Type 0
NextFrom at a s = (n : Node) × (at a ≡ Some n) × (s ≤ n.learner.next)

-- the slot holds an Add of this incarnation that took effect
pub record Begun (g : Group) (cs : List Cast) (i : Inc) (s : ℕ) : Type 0 where
  pub before : List Value
  pub before_decided : LogDecided g cs before
  pub slot : s ≡ length before + 1
  pub value : Value
  pub value_decided : Decided g cs s value
  pub joiner : Joiner
  pub adds : value.what ≡ Add joiner
  pub names : joiner.inc ≡ i
  pub kept : is_kept (after g before) value ≡ true
  pub effect : has_effect (after g before) value.what ≡ true

-- the same but for the former members
pub record ReadsAs (r s : Reading) : Type 0 where
  pub place : r.place ≡ s.place
  pub members : r.members ≡ s.members
  pub ever : r.ever ≡ s.ever

-- what is known of the log is that of a log of decided values
pub record Stands (g : Group) (cs : List Cast) (w : Turns) : Type 0 where
  pub log : List Value
  pub log_decided : LogDecided g cs log
  pub slot : w.slot ≡ length log
  pub reading : ReadsAs w.reading (after g log)
  pub base : w.base ≤ w.slot
  pub room : w.base + length w.configs ≡ w.slot + g.horizon
  pub configs : (t : ℕ) → w.base < t → t ≤ w.slot + g.horizon → slice_get w.configs (t - (w.base + 1)) ≡ Some (config g log t)

pub record Greeted (g : Group) (cs : List Cast) (to : Inc) (x : Welcome) : Type 0 where
  pub log : List Value
  pub log_decided : LogDecided g cs log
  pub slot : x.slot ≡ length log
  pub reading : ReadsAs (resumed (told_in x)).reading (after g log)
  pub round : 1 ≤ x.promise.round
  pub configs : (k : ℕ) → k < g.horizon → slice_get x.configs k ≡ Some (config g log (x.slot + (k + 1)))
  pub begun : Begun g cs to x.slot

abbrev pub Ranked : Group → Ballot → Type 0
Ranked g b = (b ≡ first_ballot g) ⊎ ((first_ballot g).round < b.round)

-- ---- a node

pub record AcceptorOk (cs : List Cast) (i : Inc) (promise : Ballot) (votes : List Vote) (low : ℕ) : Type 0 where
  pub covers : (t : ℕ) (b : Ballot) (v : Value) → In (cast_of i t b v) cs → low ≤ t → (x : Vote) × (vote_at votes t ≡ Some x) × (ballot_lt x.ballot b ≡ false)
  pub real : (x : Vote) → In x votes → In (cast_of i x.slot x.ballot x.value) cs
  pub below : (t : ℕ) (b : Ballot) (v : Value) → In (cast_of i t b v) cs → ballot_lt promise b ≡ false

pub record LearnerOk (g : Group) (cs : List Cast) (promise : Ballot) (d : Learner) (lo : ℕ) (tu : Option Turns) : Type 0 where
  pub decided : (e : Entry) → In e d.decided → Decided g cs e.slot e.value
  pub low : lo ≤ d.slot
  pub slot : d.slot ≤ d.next
  pub unwelcomed : tu ≡ None → d.next ≡ 0
  pub turns : (w : Turns) → tu ≡ Some w → Stands g cs w × (d.slot ≡ w.slot + 1) × (1 ≤ promise.round)

-- a promise that a leader keeps: from a slot that is now not above its next one
pub record KeptOk (at : Nodes) (cs : List Cast) (b : Ballot) (next : ℕ) (p : Promised) : Type 0 where
  pub from : ℕ
  pub from_below : from ≤ next
  pub upto : Upto at p.inc b
  pub reports : (t : ℕ) → from ≤ t → Report cs p.inc b t p.votes

pub record LeaderOk (g : Group) (at : Nodes) (cs : List Cast) (i : Inc) (promise : Ballot) (next low : ℕ) (l : Leader) : Type 0 where
  pub mine : l.ballot.inc ≡ i
  pub top : promise ≡ l.ballot
  pub ranked : Ranked g l.ballot
  pub knows : (a : Inc) (t : ℕ) (v : Value) → In (cast_of a t l.ballot v) cs → low ≤ t → (p : Proposal) × (proposal_at l t ≡ Some p)
  pub real : (p : Proposal) → In p l.proposals → In (cast_of i p.slot l.ballot p.value) cs
  pub counted : (p : Proposal) → In p l.proposals → (a : Inc) → has_inc p.accepted a ≡ true → In (cast_of a p.slot l.ballot p.value) cs
  pub promised : (p : Promised) → In p l.promises → KeptOk at cs l.ballot next p

pub record NodeOk (g : Group) (at : Nodes) (cs : List Cast) (i : Inc) (n : Node) : Type 0 where
  pub me : n.me ≡ i
  pub horizon : n.horizon ≡ g.horizon
  pub acceptor : AcceptorOk cs i n.acceptor.promise n.acceptor.votes n.acceptor.low
  pub learner : LearnerOk g cs n.acceptor.promise n.learner n.acceptor.low n.turns
  pub leader : (l : Leader) → n.leader ≡ Some l → LeaderOk g at cs i n.acceptor.promise n.learner.next n.acceptor.low l

-- ---- a message

pub record PromiseOk (at : Nodes) (cs : List Cast) (i : Inc) (b : Ballot) (s : ℕ) (votes : List Vote) : Type 0 where
  pub next : NextFrom at b.inc s
  pub upto : Upto at i b
  pub reports : (t : ℕ) → s ≤ t → Report cs i b t votes

abbrev pub WireOk : Group → Nodes → List Cast → Inc → Inc → Wire → Type 0
WireOk g at cs i to (Prepare b s) = NextFrom at b.inc s
WireOk g at cs i to (Promise b s xs) = PromiseOk at cs i b s xs
WireOk g at cs i to (Accept b t v) = In (cast_of b.inc t b v) cs
WireOk g at cs i to (Accepted b t) = (v : Value) × In (cast_of i t b v) cs
WireOk g at cs i to (Learn t v) = Decided g cs t v
WireOk g at cs i to (Greet x) = Greeted g cs to x
WireOk g at cs i to (Offer v) = Unit {0}
WireOk g at cs i to (Ask x) = Unit {0}
WireOk g at cs i to (Give x) = Unit {0}
WireOk g at cs i to (Alive k) = Unit {0}
WireOk g at cs i to Gone = Unit {0}

abbrev pub MsgOk : Group → Nodes → List Cast → Message → Type 0
MsgOk g at cs m = WireOk g at cs m.from m.to m.wire

-- a proposal at a later ballot than the first, backed by promises that still bind
pub record Backed (g : Group) (at : Nodes) (cs : List Cast) (b : Ballot) (t : ℕ) (v : Value) : Type 0 where
  pub support : Supported g cs b t v
  pub upto : (p : Promised) → In p support.promises → Upto at p.inc b

-- a slot taken is decided, and its value became what it becomes after a log of decided values
pub record TookWell (g : Group) (cs : List Cast) (x : Taken) : Type 0 where
  pub decided : Decided g cs x.slot x.value
  pub log : List Value
  pub log_decided : LogDecided g cs log
  pub slot : x.slot ≡ length log + 1
  pub kept : x.kept ≡ became (after g log) x.value

pub record Inv (g : Group) (at : Nodes) (ws : List Message) (cs : List Cast) (ts : List Took) : Type 0 where
  pub proposed : (a : Inc) (t : ℕ) (b : Ballot) (v : Value) → In (cast_of a t b v) cs → In (cast_of b.inc t b v) cs
  pub one : (t : ℕ) (b : Ballot) (u v : Value) → In (cast_of b.inc t b u) cs → In (cast_of b.inc t b v) cs → u ≡ v
  pub rounds : (a : Inc) (t : ℕ) (b : Ballot) (v : Value) → In (cast_of a t b v) cs → Ranked g b
  pub backed : (t : ℕ) (b : Ballot) (v : Value) → In (cast_of b.inc t b v) cs → (b ≡ first_ballot g) ⊎ Backed g at cs b t v
  pub voters : (a : Inc) (t : ℕ) (b : Ballot) (v : Value) → In (cast_of a t b v) cs → (n : Node) × (at a ≡ Some n)
  pub nodes : (i : Inc) (n : Node) → at i ≡ Some n → NodeOk g at cs i n
  pub wire : (m : Message) → In m ws → MsgOk g at cs m
  pub took : (x : Took) → In x ts → TookWell g cs x.taken

pub sound_of : (g : Group) (at : Nodes) (wire : List Message) (cs : List Cast) (took : List Took) → Inv g at wire cs took → Sound g (first_ballot g) cs
sound_of g at wire cs took inv = record {
  proposed = inv.proposed;
  one = inv.one;
  rounds = inv.rounds;
  supported = λ t b v i. elim (inv.backed t b v i) [ inl e ↦ inl e | inr k ↦ inr k.support ];
}

-- ---- one node put anew

pub put_same : (at : Nodes) (i : Inc) (n : Node) → put_node at i n i ≡ Some n
put_same at i n = rw (inc_same i)

pub put_cases : (at : Nodes) (i : Inc) (n : Node) (j : Inc) (m : Node) → put_node at i n j ≡ Some m → ((i ≡ j) × (n ≡ m)) ⊎ ((inc_eq i j ≡ false) × (at j ≡ Some m))
put_cases at i n j m h = go (inc_eq i j) refl
  where
    go : (b : Bool) → inc_eq i j ≡ b → ((i ≡ j) × (n ≡ m)) ⊎ ((inc_eq i j ≡ false) × (at j ≡ Some m))
    go true e = let k : Some n ≡ Some m = rw e at h in let f : n ≡ m = cc in inl (inc_is i j e, f)
    go false e = inr (e, rw e at h)

pub put_twice : (at : Nodes) (i : Inc) (n m : Node) → put_node (put_node at i n) i m ≡ put_node at i m
put_twice at i n m = fun_ext (λ j. go j (inc_eq i j) refl)
  where
    go : (j : Inc) (b : Bool) → inc_eq i j ≡ b → put_node (put_node at i n) i m j ≡ put_node at i m j
    go j true e = rw e
    go j false e = rw e

-- ---- promises and next slots rise

abbrev pub Rises : Nodes → Nodes → Type 0
Rises at at' = (j : Inc) (n : Node) → at j ≡ Some n → (m : Node) × (at' j ≡ Some m) × (ballot_lt m.acceptor.promise n.acceptor.promise ≡ false) × (n.learner.next ≤ m.learner.next)

pub put_rises : (at : Nodes) (i : Inc) (n m : Node) → at i ≡ Some n → ballot_lt m.acceptor.promise n.acceptor.promise ≡ false → n.learner.next ≤ m.learner.next → Rises at (put_node at i m)
put_rises at i n m here up nx j x h = go (inc_eq i j) refl
  where
    go : (b : Bool) → inc_eq i j ≡ b → (y : Node) × (put_node at i m j ≡ Some y) × (ballot_lt y.acceptor.promise x.acceptor.promise ≡ false) × (x.learner.next ≤ y.learner.next)
    go true e =
        let ij : i ≡ j = inc_is i j e in
        let k : Some n ≡ Some x = sym here ∙ ap at ij ∙ h in
        let f : n ≡ x = cc in
        (m, rw e refl, subst (λ z. ballot_lt m.acceptor.promise z.acceptor.promise ≡ false) f up, subst (λ z. z.learner.next ≤ m.learner.next) f nx)
    go false e = (x, rw e h, lt_same x.acceptor.promise, omega arith)

pub upto_rises : (at at' : Nodes) → Rises at at' → (a : Inc) (b : Ballot) → Upto at a b → Upto at' a b
upto_rises at at' r a b u = let x = r a u.0 u.1 in (x.0, x.1, le_trans b (u.0).acceptor.promise (x.0).acceptor.promise u.2 x.2)

pub next_rises : (at at' : Nodes) → Rises at at' → (a : Inc) (s : ℕ) → NextFrom at a s → NextFrom at' a s
next_rises at at' r a s u = let x = r a u.0 u.1 in (x.0, x.1, omega (arith, u.2, x.3))

pub kept_rises : (at at' : Nodes) → Rises at at' → (cs : List Cast) (b : Ballot) (next next' : ℕ) (p : Promised) → next ≤ next' → KeptOk at cs b next p → KeptOk at' cs b next' p
kept_rises at at' r cs b next next' p h k = record { from = k.from; from_below = omega (arith, k.from_below); upto = upto_rises at at' r p.inc b k.upto; reports = k.reports }

pub leader_rises : (at at' : Nodes) → Rises at at' → (g : Group) (cs : List Cast) (i : Inc) (promise : Ballot) (next next' low : ℕ) (l : Leader) → next ≤ next' → LeaderOk g at cs i promise next low l → LeaderOk g at' cs i promise next' low l
leader_rises at at' r g cs i promise next next' low l h k = record {
  mine = k.mine;
  top = k.top;
  ranked = k.ranked;
  knows = k.knows;
  real = k.real;
  counted = k.counted;
  promised = λ p q. kept_rises at at' r cs l.ballot next next' p h (k.promised p q);
}

pub node_rises : (at at' : Nodes) → Rises at at' → (g : Group) (cs : List Cast) (i : Inc) (n : Node) → NodeOk g at cs i n → NodeOk g at' cs i n
node_rises at at' r g cs i n k = record {
  me = k.me;
  horizon = k.horizon;
  acceptor = k.acceptor;
  learner = k.learner;
  leader = λ l e. leader_rises at at' r g cs i n.acceptor.promise n.learner.next n.learner.next n.acceptor.low l (omega arith) (k.leader l e);
}

pub wire_rises : (at at' : Nodes) → Rises at at' → (g : Group) (cs : List Cast) (i to : Inc) (x : Wire) → WireOk g at cs i to x → WireOk g at' cs i to x
wire_rises at at' r g cs i to (Prepare b s) h = next_rises at at' r b.inc s h
wire_rises at at' r g cs i to (Promise b s xs) h = record { next = next_rises at at' r b.inc s h.next; upto = upto_rises at at' r i b h.upto; reports = h.reports }
wire_rises at at' r g cs i to (Accept b t v) h = h
wire_rises at at' r g cs i to (Accepted b t) h = h
wire_rises at at' r g cs i to (Learn t v) h = h
wire_rises at at' r g cs i to (Greet x) h = h
wire_rises at at' r g cs i to (Offer v) h = h
wire_rises at at' r g cs i to (Ask x) h = h
wire_rises at at' r g cs i to (Give x) h = h
wire_rises at at' r g cs i to (Alive k) h = h
wire_rises at at' r g cs i to Gone h = h

pub backed_rises : (at at' : Nodes) → Rises at at' → (g : Group) (cs : List Cast) (b : Ballot) (t : ℕ) (v : Value) → Backed g at cs b t v → Backed g at' cs b t v
backed_rises at at' r g cs b t v k = record { support = k.support; upto = λ p q. upto_rises at at' r p.inc b (k.upto p q) }

-- ---- a step that casts no vote

pub silent : (g : Group) (at : Nodes) (wire : List Message) (cs : List Cast) (took : List Took) (i : Inc) (n m : Node) (ms : List Message)
    → Inv g at wire cs took → at i ≡ Some n → ballot_lt m.acceptor.promise n.acceptor.promise ≡ false → n.learner.next ≤ m.learner.next
    → NodeOk g (put_node at i m) cs i m → ((x : Message) → In x ms → MsgOk g (put_node at i m) cs x)
    → Inv g (put_node at i m) (wire ++ ms) cs took
silent g at wire cs took i n m ms inv here up nx ok msgs = record {
  proposed = inv.proposed;
  one = inv.one;
  rounds = inv.rounds;
  backed = λ t b v h. elim (inv.backed t b v h) [ inl e ↦ inl e | inr k ↦ inr (backed_rises at at' r g cs b t v k) ];
  voters = λ a t b v h. let x = inv.voters a t b v h in let y = r a x.0 x.1 in (y.0, y.1);
  nodes = all;
  wire = λ x h. elim (in_append x wire ms h) [ inl k ↦ wire_rises at at' r g cs x.from x.to x.wire (inv.wire x k) | inr k ↦ msgs x k ];
  took = inv.took;
}
  where
    at' : Nodes
    at' = put_node at i m

    r : Rises at at'
    r = put_rises at i n m here up nx

    all : (j : Inc) (x : Node) → at' j ≡ Some x → NodeOk g at' cs j x
    all j x h = elim (put_cases at i m j x h) [
      | inl k ↦ subst (λ z. NodeOk g at' cs z x) k.0 (subst (λ z. NodeOk g at' cs i z) k.1 ok)
      | inr k ↦ node_rises at at' r g cs j x (inv.nodes j x k.1)
    ]

-- The wire counts by its members alone: it may be sorted, and messages that stand twice may be dropped.
pub wire_fewer : (g : Group) (at : Nodes) (ws ws' : List Message) (cs : List Cast) (ts : List Took) → ((m : Message) → In m ws' → In m ws) → Inv g at ws cs ts → Inv g at ws' cs ts
wire_fewer g at ws ws' cs ts f inv = record {
  proposed = inv.proposed;
  one = inv.one;
  rounds = inv.rounds;
  backed = inv.backed;
  voters = inv.voters;
  nodes = inv.nodes;
  took = inv.took;
  wire = λ m h. inv.wire m (f m h);
}
