-- Every event keeps the invariant, so it holds of every run; and the laws on chosen values follow.
use Rattle.std.proofs.Common.{◌≡◌, ℕ, zero, suc, ◌+◌, ◌-◌, ◌<◌, ◌≤◌, Bool, true, false, cond, inl, inr, Option, Some, None, List, [], ◌∷◌, ◌++◌, length, take, replicate, refl, sym, ap, ◌∙◌, subst, arith}
use Rattle.std.specs.Prelude.{slice_get, map}
use Rattle.std.proofs.lemmas.Bool.{cases_Bool, lt-ltb, cond_both}
use Rattle.gr_ids.specs.Names.{has_inc, inc_eq}
use Rattle.node_rules.specs.Chosen.{Cast, cast_of}
use Rattle.node_rules.specs.Leader.{Leader, new_leader}
use Rattle.node_rules.specs.Lists.{In}
use Rattle.node_rules.specs.Node.{Node, Effect, first_inc, first_ballot, founder, joiner, quiet, also}
use Rattle.node_rules.specs.Step.{node_step}
use Rattle.node_rules.specs.World.{World, Took, Act, Event, Hears, Does, Starts, Ends, does_all, all_made_by, Arranges, put_node, casts_by, took_by, acted, makes, act_on, acts, hears, start_sent, starts, happens, founders_at, start, run_from, run}
use Rattle.order_laws.specs.Names.{Heard, Inc, Ballot, Value, Joiner, Message}
use Rattle.order_laws.specs.Laws.{InEveryRun, AtMostOneChosen, OneLog, TakenAlike, KeptAsInLog, Follows}
use Rattle.slot_values.specs.Log.{Group, config, after, incs, first_turns}
use Rattle.node_rules.proofs.Incs.{inc_is}
use Rattle.order_laws.proofs.Order.{lt_same}
use Rattle.order_laws.proofs.Lists.{in_left, in_right, in_append, in_push}
use Rattle.order_laws.proofs.Agree.{Decided, agree, chosen_once, logs_agree, log_chosen, decided_chosen}
use Rattle.order_laws.proofs.Inv.{Nodes, Stands, LeaderOk, NodeOk, MsgOk, Inv, sound_of, put_cases, Rises, node_rises, wire_rises, backed_rises, wire_fewer}
use Rattle.order_laws.proofs.Acts.{InvAfter, safe_quiet, safe_also}
use Rattle.order_laws.proofs.Logs.{log_more}
use Rattle.order_laws.proofs.Steps.{safe_step, safe_all}

abbrev pub Good : Group → World → Type 0
Good g w = Inv g w.at w.wire w.cast w.took

good_acts : (arrange : List Message → List Message) → Arranges arrange → (g : Group) (w : World) (i : Inc) (l : List Act) (f : Node → Effect) → Good g w → ((n : Node) → w.at i ≡ Some n → InvAfter g w.at w.wire w.cast w.took i (f n)) → Good g (acts arrange w i l f)
good_acts arrange adds_none g w i l f inv safe = go (w.at i) refl
  where
    go : (o : Option Node) → w.at i ≡ o → Good g (act_on arrange w i l f o)
    go None e = inv
    go (Some n) e =
        let x : Effect = also (f n) (does_all i l) in
        cond_both (has_inc w.ended i) w (acted arrange (makes w (all_made_by i l)) i x) (λ v. Good g v) (λ h. inv)
        (λ h. wire_fewer g (put_node w.at i x.node) (w.wire ++ x.sent) (w.wire ++ arrange x.sent) (w.cast ++ casts_by i x.cast) (w.took ++ took_by i x.took)
        (λ m q. elim (in_append m w.wire (arrange x.sent) q) [ inl z ↦ in_left m w.wire x.sent z | inr z ↦ in_right m w.wire x.sent (adds_none x.sent m z) ])
        (safe_also g w.at w.wire w.cast w.took i (f n) (does_all i l) (safe n e) (λ at' ws' cs' ts' inv' here'. safe_all g i l (f n).node at' ws' cs' ts' inv' here')))

pub get-in : {A : Type 0} (xs : List A) (k : ℕ) (x : A) → slice_get xs k ≡ Some x → In x xs
get-in [] k x h = cc
get-in (y ∷ xs) zero x h = inl cc
get-in (y ∷ xs) (suc k) x h = inr (get-in xs k x h)

-- a joiner starts where nobody of that incarnation was
inv_starts : (g : Group) (at : Nodes) (ws : List Message) (cs : List Cast) (ts : List Took) (i : Inc) (x : Message) → Inv g at ws cs ts → at i ≡ None → ((at' : Nodes) → MsgOk g at' cs x) → Inv g (put_node at i (joiner g i)) (ws ++ x ∷ []) cs ts
inv_starts g at ws cs ts i x inv none said = record {
  proposed = inv.proposed;
  one = inv.one;
  rounds = inv.rounds;
  backed = λ t b v h. elim (inv.backed t b v h) [ inl e ↦ inl e | inr k ↦ inr (backed_rises at at' r g cs b t v k) ];
  voters = λ a t b v h. let y = inv.voters a t b v h in let z = r a y.0 y.1 in (z.0, z.1);
  nodes = λ j y h. elim (put_cases at i m j y h) [
    | inl k ↦ subst (λ z. NodeOk g at' cs z y) k.0 (subst (λ z. NodeOk g at' cs i z) k.1 new)
    | inr k ↦ node_rises at at' r g cs j y (inv.nodes j y k.1)
  ];
  wire = λ y h. elim (in_push y ws x h) [ inl k ↦ wire_rises at at' r g cs y.from y.to y.wire (inv.wire y k) | inr e ↦ subst (λ z. MsgOk g at' cs z) e (said at') ];
  took = inv.took;
}
  where
    m : Node
    m = joiner g i

    at' : Nodes
    at' = put_node at i m

    nobody : (t : ℕ) (b : Ballot) (v : Value) → In (cast_of i t b v) cs → ⊥
    nobody t b v h = let y = inv.voters i t b v h in let e : None ≡ Some y.0 = sym none ∙ y.1 in cc

    r : Rises at at'
    r j n h = elim (cases_Bool (inc_eq i j)) [
      | inl e ↦ let f : None ≡ Some n = sym none ∙ ap at (inc_is i j e) ∙ h in absurd (cc)
      | inr e ↦ (n, rw e h, lt_same n.acceptor.promise, omega arith)
    ]

    new : NodeOk g at' cs i m
    new = record {
      me = refl;
      horizon = refl;
      acceptor = record { covers = λ t b v h lo. absurd (nobody t b v h); real = λ y h. absurd h; below = λ t b v h. absurd (nobody t b v h) };
      learner = record { decided = λ e h. absurd h; low = omega arith; slot = omega arith; unwelcomed = λ e. refl; turns = λ w e. absurd (cc) };
      leader = λ l e. absurd (cc);
    }

good_starts : (g : Group) (w : World) (j : Joiner) (contact : Inc) → Good g w → Good g (starts g w j contact)
good_starts g w j contact inv = go (w.at j.inc) refl
  where
    go : (o : Option Node) → w.at j.inc ≡ o → Good g (starts g w j contact)
    go (Some n) e = rw e inv
    go None e = rw e (inv_starts g w.at w.wire w.cast w.took j.inc (start_sent j contact) inv e (λ at'. tt))

pub good_event : (arrange : List Message → List Message) → Arranges arrange → (g : Group) (w : World) (e : Event) → Good g w → Good g (happens arrange g w e)
good_event arrange ok g w (Hears k l) inv = go (slice_get w.wire k) refl
  where
    go : (o : Option Message) → slice_get w.wire k ≡ o → Good g (hears arrange w l o)
    go None e = inv
    go (Some m) e = good_acts arrange ok g w m.to l (node_step (Heard m)) inv (λ n here. safe_step g m.to (Heard m) n w.at w.wire w.cast w.took (inv.wire m (get-in w.wire k m e)) inv here)
good_event arrange ok g w (Does i l) inv = good_acts arrange ok g w i l quiet inv (λ n here. safe_quiet g i n w.at w.wire w.cast w.took inv here)
good_event arrange ok g w (Starts j contact) inv = good_starts g w j contact inv
good_event arrange ok g w (Ends i) inv = inv

good_run : (arrange : List Message → List Message) → Arranges arrange → (g : Group) (es : List Event) (w : World) → Good g w → Good g (run_from arrange g es w)
good_run arrange ok g [] w inv = inv
good_run arrange ok g (e ∷ es) w inv = good_run arrange ok g es (happens arrange g w e) (good_event arrange ok g w e inv)

take_nil : (n : ℕ) → take {A = Value} n [] ≡ []
take_nil zero = refl
take_nil (suc n) = refl

get_replicate : {A : Type 0} (x : A) (n k : ℕ) → k < n → slice_get (replicate n x) k ≡ Some x
get_replicate x zero k h = absurd (omega arith)
get_replicate x (suc n) zero h = refl
get_replicate x (suc n) (suc k) h = get_replicate x n k (omega arith)

length_replicate : {A : Type 0} (x : A) (n : ℕ) → length (replicate n x) ≡ n
length_replicate x zero = refl
length_replicate x (suc n) = ap suc (length_replicate x n)

incs_of : (is : List Inc) → incs (map (λ i. record { inc = i; last = 0 }) is) ≡ is
incs_of [] = refl
incs_of (i ∷ is) = ap (λ z. i ∷ z) (incs_of is)

config_founders : (g : Group) (t : ℕ) → config g [] t ≡ g.founders
config_founders g t = ap (λ z. incs (after g z).members) (take_nil (t - g.horizon)) ∙ incs_of g.founders

founder_ok : (g : Group) (at : Nodes) (i : Inc) → NodeOk g at [] i (founder g i)
founder_ok g at i = record {
  me = refl;
  horizon = refl;
  acceptor = record { covers = λ t b v h lo. absurd h; real = λ y h. absurd h; below = λ t b v h. absurd h };
  learner = record {
    decided = λ e h. absurd h;
    low = omega arith;
    slot = omega arith;
    unwelcomed = λ e. absurd (cc);
    turns = λ w e. let z : first_turns g ≡ w = cc in subst (λ y. Stands g [] y × (1 ≡ y.slot + 1) × (1 ≤ 1)) z (stands, refl, omega arith);
  };
  leader = λ l e. lead (inc_eq i (first_inc g.founders)) refl l e;
}
  where
    stands : Stands g [] (first_turns g)
    stands = record {
      log = [];
      log_decided = λ k u e. absurd (cc);
      slot = refl;
      reading = record { place = refl; members = refl; ever = refl };
      base = omega arith;
      room = omega (arith, length_replicate g.founders g.horizon);
      configs = λ t b h. get_replicate g.founders g.horizon (t - (0 + 1)) (omega arith) ∙ ap Some (sym (config_founders g t));
    }

    lead : (u : Bool) → inc_eq i (first_inc g.founders) ≡ u → (l : Leader) → cond u (Some (new_leader (first_ballot g) [])) None ≡ Some l → LeaderOk g at [] i (first_ballot g) 1 1 l
    lead false f l e = absurd (cc)
    lead true f l e =
        let z : new_leader (first_ballot g) [] ≡ l = cc in
        subst (λ y. LeaderOk g at [] i (first_ballot g) 1 1 y) z (record {
          mine = sym (inc_is i (first_inc g.founders) f);
          top = refl;
          ranked = inl refl;
          knows = λ a t v h lo. absurd h;
          real = λ p h. absurd h;
          counted = λ p h. absurd h;
          promised = λ p h. absurd h;
        })

pub good_start : (g : Group) → Good g (start g)
good_start g = record {
  proposed = λ a t b v h. absurd h;
  one = λ t b u v h k. absurd h;
  rounds = λ a t b v h. absurd h;
  backed = λ t b v h. absurd h;
  voters = λ a t b v h. absurd h;
  nodes = λ i n h. elim (cases_Bool (has_inc g.founders i)) [
    | inl e ↦ let k : Some (founder g i) ≡ Some n = rw e at h in let z : founder g i ≡ n = cc in subst (λ y. NodeOk g (founders_at g) [] i y) z (founder_ok g (founders_at g) i)
    | inr e ↦ let k : None ≡ Some n = rw e at h in absurd (cc)
  ];
  wire = λ m h. absurd h;
  took = λ x h. absurd h;
}

pub good : (arrange : List Message → List Message) → Arranges arrange → (g : Group) (es : List Event) → Good g (run arrange g es)
unfolding run
good arrange ok g es = good_run arrange ok g es (start g) (good_start g)

-- ---- the laws

pub at_most_one_chosen : InEveryRun AtMostOneChosen
at_most_one_chosen arrange ok g es far xs ys hx hy t u v kx ky cx cy =
    let w = run arrange g es in
    chosen_once g (first_ballot g) w.cast far (sound_of g w.at w.wire w.cast w.took (good arrange ok g es)) xs ys hx hy t u v kx ky cx cy

pub one_log : InEveryRun OneLog
one_log arrange ok g es far xs ys hx hy k u v p q =
    let w = run arrange g es in
    logs_agree g (first_ballot g) w.cast far (sound_of g w.at w.wire w.cast w.took (good arrange ok g es)) xs ys hx hy k u v p q

pub taken_alike : InEveryRun TakenAlike
taken_alike arrange ok g es far x y hx hy same =
    let w = run arrange g es in
    let inv = good arrange ok g es in
    agree g (first_ballot g) w.cast far (sound_of g w.at w.wire w.cast w.took inv) y.taken.slot x.taken.value y.taken.value (subst (λ z. Decided g w.cast z x.taken.value) same (inv.took x hx).decided) (inv.took y hy).decided

pub kept_as_in_log : InEveryRun KeptAsInLog
kept_as_in_log arrange ok g es far x h =
    let w = run arrange g es in
    let inv = good arrange ok g es in
    let sound = sound_of g w.at w.wire w.cast w.took inv in
    let k = inv.took x h in (
      k.log,
      log_chosen g (first_ballot g) w.cast far sound k.log k.log_decided,
      k.slot,
      decided_chosen g (first_ballot g) w.cast far sound k.log k.log_decided x.taken.slot x.taken.value (omega (arith, k.slot, far)) k.decided,
      k.kept,
      log_chosen g (first_ballot g) w.cast far sound (k.log ++ x.taken.value ∷ []) (log_more g w.cast k.log x.taken.value k.log_decided (subst (λ z. Decided g w.cast z x.taken.value) k.slot k.decided)),
    )

pub follows : InEveryRun Follows
follows arrange ok g es far i n t here turns =
    let w = run arrange g es in
    let inv = good arrange ok g es in
    let s = (((inv.nodes i n here).learner).turns t turns).0 in
    (s.log, log_chosen g (first_ballot g) w.cast far (sound_of g w.at w.wire w.cast w.took inv) s.log s.log_decided, s.slot, (s.reading).place, (s.reading).members, (s.reading).ever, λ k b h. rw (lt-ltb t.base k b) (s.configs k b h))
