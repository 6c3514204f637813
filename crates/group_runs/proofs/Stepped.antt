-- A step of a member keeps what holds of the world.
use Rattle.std.proofs.Common.{eq-eqb, eqb, append_assoc, append-nil, ◌≡◌, ◌⊎◌, inl, inr, ℕ, ◌≤◌, ◌<◌, ◌-◌, Bool, true, false, Option, Some, None, List, [], ◌∷◌, ◌++◌, refl, sym, ap, subst, ◌∙◌, length, take, arith, ◌+◌, length-append}
use Rattle.std.specs.Prelude.{map, ◌==◌}
use Rattle.std.proofs.lemmas.Bool.{false≢true, cases_Bool, eqb-true}
use Rattle.gr_ids.specs.Names.{inc_eq}
use Rattle.gr_ids.specs.declared.names.Inc.{Inc}
use Rattle.slot_values.specs.declared.value.Value.{Value}
use Rattle.txn_forms.specs.declared.body.Body.{Body}
use Rattle.paxos_forms.specs.declared.message.Message.{Message}
use Rattle.paxos_forms.specs.declared.message.Wire.{Wire}
use Rattle.paxos_forms.specs.declared.message.Wire.TheVariants.{Prepare, Promise, Accept, Accepted, Learn, Offer, Welcome as Greet, Ask, Give, Alive, Gone}
use Rattle.paxos_forms.specs.declared.welcome.Welcome.{Welcome}
use Rattle.node_rules.specs.declared.event.PaxosEvent.TheVariants.{Heard}
use Rattle.node_rules.specs.declared.taken.Taken.{Taken}
use Rattle.node_rules.specs.Lists.{In}
use Rattle.node_rules.specs.Node.{Node, Effect, quiet, also}
use Rattle.node_rules.specs.Step.{node_step}
use Rattle.node_rules.specs.Welcoming.{welcome_of}
use Rattle.node_rules.specs.World as nodes
use Rattle.order_laws.specs.Laws.{slots_by, is_joining, Named, HearingTakesNone, HearingGreetsNobody}
use Rattle.group_rules.specs.View.{shown}
use Rattle.group_rules.specs.Events.{Did, Founds, Starts, Came, Made, Took, Skips, Done, Committed, Is, Gave, Answered, Begun, Changed, Replied, Called, AsksCommit, Ends, Enters, Restores, AskFails, Event, Hears, Ticks, Works, Calls, Operates, Life, Setup}
use Rattle.group_rules.specs.Life.{state, is_up, view}
use Rattle.group_rules.specs.Member.{Member, at_node}
use Rattle.group_rules.specs.Steps.{group_of, step}
use Rattle.group_rules.specs.Histories.{message_lt, message_eq, with_message, arranged}
use Rattle.group_rules.specs.World.{World, Server, Past, Does, Writes, Halts, life_in, nothing_stored, server_at, put_server, put_member, happens, dids, stepped}
use Rattle.group_rules.specs.Legal.{IsPast, WasMade}
use Rattle.group_bridge.specs.Left.{is_settled, IsAfterAll, IsSent, taken_left}
use Rattle.group_bridge.specs.Moves.{is_apart, is_ask_or_give, slots_in, Each, IsAllowed, TookBy, TookRightly, SentBy, GreetedBy, IsActs, StepIsActs, cleared}
use Rattle.group_runs.specs.Runs.{as_sent, running_in, stored_in, WasGreeted, WasTold, WasSentAs, WasSent, AllDid, IsActive, IsDone, IsNodeRun, TookIn, TookThen, OfSlots, HeardIn}
use Rattle.node_rules.proofs.Incs.{inc_is}
use Rattle.group_runs.proofs.Pasts.{take_more, in_left, in_right, in_either, in_map, life_of_dids, life_of_others, running_of_dids, running_of_others, past_of_more, past_grows, made_grows, did_map, did_more}
use Rattle.group_runs.proofs.Servers.{put_same, put_other, put_cases, number_of}
use Rattle.group_runs.proofs.Nodes.{one_more, acted_on, heard_on, index_of, put_here, put_there, all_made_own, slots_of_one, slots_of_other}
use Rattle.group_runs.proofs.Inv.{inc_of, IsRunning, WasStarted, Inv}

-- ---- things of slots alone

pub slots_map : (P Q : Past → Inc → Did → Type 0) → ((p : Past) (i : Inc) (d : Did) → P p i d → Q p i d) → (p : Past) (i : Inc) (d : Did) → OfSlots P p i d → OfSlots Q p i d
slots_map P Q f p i (Took e) h = f p i (Took e) h
slots_map P Q f p i (Skips s v) h = f p i (Skips s v) h
slots_map P Q f p i Founds z = tt
slots_map P Q f p i (Starts x) z = tt
slots_map P Q f p i (Came x) z = tt
slots_map P Q f p i (Made v h) z = tt
slots_map P Q f p i (Done n) z = tt
slots_map P Q f p i (Committed g) z = tt
slots_map P Q f p i (Is s c) z = tt
slots_map P Q f p i (Gave n m) z = tt
slots_map P Q f p i (Answered s x) z = tt
slots_map P Q f p i (Begun s x y) z = tt
slots_map P Q f p i (Changed s c) z = tt
slots_map P Q f p i (Replied r) z = tt
slots_map P Q f p i (Called s v w) z = tt
slots_map P Q f p i (AsksCommit s j) z = tt
slots_map P Q f p i (Ends s) z = tt
slots_map P Q f p i (Enters w) z = tt
slots_map P Q f p i (Restores g cs) z = tt
slots_map P Q f p i AskFails z = tt

slots_by_acts : (g : Member) (all : List nodes.Act) (P : Past → Inc → Did → Type 0) (p : Past) (i : Inc) (l : Life) → ((d : Did) → TookBy g all d l → P p i d) → (d : Did) → TookRightly g all d l → OfSlots P p i d
slots_by_acts g all P p i l f (Took e) h = f (Took e) h
slots_by_acts g all P p i l f (Skips s v) h = f (Skips s v) h
slots_by_acts g all P p i l f Founds z = tt
slots_by_acts g all P p i l f (Starts x) z = tt
slots_by_acts g all P p i l f (Came x) z = tt
slots_by_acts g all P p i l f (Made v h) z = tt
slots_by_acts g all P p i l f (Done n) z = tt
slots_by_acts g all P p i l f (Committed y) z = tt
slots_by_acts g all P p i l f (Is s c) z = tt
slots_by_acts g all P p i l f (Gave n m) z = tt
slots_by_acts g all P p i l f (Answered s x) z = tt
slots_by_acts g all P p i l f (Begun s x y) z = tt
slots_by_acts g all P p i l f (Changed s c) z = tt
slots_by_acts g all P p i l f (Replied r) z = tt
slots_by_acts g all P p i l f (Called s v w) z = tt
slots_by_acts g all P p i l f (AsksCommit s j) z = tt
slots_by_acts g all P p i l f (Ends s) z = tt
slots_by_acts g all P p i l f (Enters w) z = tt
slots_by_acts g all P p i l f (Restores y cs) z = tt
slots_by_acts g all P p i l f AskFails z = tt

pub slots_then : (xs ys : Life) → slots_in (xs ++ ys) ≡ slots_in ys ++ slots_in xs
slots_then [] ys = sym (append-nil (slots_in ys))
slots_then (Took x ∷ xs) ys = ap (λ l. l ++ x.slot ∷ []) (slots_then xs ys) ∙ append_assoc (slots_in ys) (slots_in xs) (x.slot ∷ [])
slots_then (Skips t v ∷ xs) ys = ap (λ l. l ++ t ∷ []) (slots_then xs ys) ∙ append_assoc (slots_in ys) (slots_in xs) (t ∷ [])
slots_then (Founds ∷ xs) ys = slots_then xs ys
slots_then (Starts x ∷ xs) ys = slots_then xs ys
slots_then (Came x ∷ xs) ys = slots_then xs ys
slots_then (Made v h ∷ xs) ys = slots_then xs ys
slots_then (Done n ∷ xs) ys = slots_then xs ys
slots_then (Committed g ∷ xs) ys = slots_then xs ys
slots_then (Is s c ∷ xs) ys = slots_then xs ys
slots_then (Gave n m ∷ xs) ys = slots_then xs ys
slots_then (Answered s x ∷ xs) ys = slots_then xs ys
slots_then (Begun s x y ∷ xs) ys = slots_then xs ys
slots_then (Changed s c ∷ xs) ys = slots_then xs ys
slots_then (Replied r ∷ xs) ys = slots_then xs ys
slots_then (Called s v w ∷ xs) ys = slots_then xs ys
slots_then (AsksCommit s j ∷ xs) ys = slots_then xs ys
slots_then (Ends s ∷ xs) ys = slots_then xs ys
slots_then (Enters w ∷ xs) ys = slots_then xs ys
slots_then (Restores g cs ∷ xs) ys = slots_then xs ys
slots_then (AskFails ∷ xs) ys = slots_then xs ys

-- ---- pasts

dids_then : (i : Inc) (xs ys : Life) (p : Past) → dids i (xs ++ ys) ++ p ≡ dids i xs ++ (dids i ys ++ p)
dids_then i [] ys p = refl
dids_then i (d ∷ xs) ys p = ap (λ l. Does i d ∷ l) (dids_then i xs ys p)

in_life : (i : Inc) (d : Did) (p : Past) → In d (life_in p i) → In (Does i d) p
in_life i d [] h = absurd h
in_life i d (Does j x ∷ p) h = go (inc_eq j i) refl h (in_life i d p)
  where
    go : (b : Bool) → inc_eq j i ≡ b → In d (elim b [ true ↦ x ∷ life_in p i | false ↦ life_in p i ]) → (In d (life_in p i) → In (Does i d) p) → In (Does i d) (Does j x ∷ p)
    go true e (inl q) k = inl (subst (λ z. Does j x ≡ Does z d) (inc_is j i e) (ap (λ y. Does j y) q))
    go true e (inr q) k = inr (k q)
    go false e q k = inr (k q)
in_life i d (Writes n x ∷ p) h = inr (in_life i d p h)
in_life i d (Halts n ∷ p) h = inr (in_life i d p h)

pub stored_of_dids : (i : Inc) (more : Life) (p : Past) (n : ℕ) → stored_in (dids i more ++ p) n ≡ stored_in p n
stored_of_dids i [] p n = refl
stored_of_dids i (d ∷ more) p n = stored_of_dids i more p n

pub sent_grows : (t : Setup) (ps p : Past) (m : Message) → WasSent t p m → WasSent t (ps ++ p) m
sent_grows t ps p m h = go m.wire h
  where
    told : WasTold t p m → WasTold t (ps ++ p) m
    told k = (k.0, past_grows ps k.0 p k.1, k.2)

    go : (x : Wire) → WasSentAs t p m x → WasSentAs t (ps ++ p) m x
    go (Greet w) k = record { who = k.who; before = k.before; add = k.add; took = past_grows ps (Does k.who (Took k.add) ∷ k.before) p k.took; joiner = k.joiner; adds = k.adds; effect = k.effect; to = k.to; up = k.up; node = k.node; turns = k.turns; welcome = k.welcome }
    go (Ask x) k = told k
    go (Give x) k = told k
    go (Prepare b s) k = tt
    go (Promise b s xs) k = tt
    go (Accept b s v) k = tt
    go (Accepted b s) k = tt
    go (Learn s v) k = tt
    go (Offer v) k = tt
    go (Alive n) k = tt
    go Gone k = tt

-- a wire that has more
pub heard_grows : (v v' : nodes.World) → ((m : Message) → In m v.wire → In m v'.wire) → (p : Past) (i : Inc) (d : Did) → HeardIn v p i d → HeardIn v' p i d
heard_grows u u' f p i (Came (Hears m)) h = elim h [ inl z ↦ inl (f m z) | inr z ↦ inr z ]
heard_grows u u' f p i Founds z = tt
heard_grows u u' f p i (Starts x) z = tt
heard_grows u u' f p i (Made v h) z = tt
heard_grows u u' f p i (Done n) z = tt
heard_grows u u' f p i (Committed g) z = tt
heard_grows u u' f p i (Is s c) z = tt
heard_grows u u' f p i (Gave n m) z = tt
heard_grows u u' f p i (Answered s x) z = tt
heard_grows u u' f p i (Begun s x y) z = tt
heard_grows u u' f p i (Changed s c) z = tt
heard_grows u u' f p i (Replied r) z = tt
heard_grows u u' f p i (Called s v w) z = tt
heard_grows u u' f p i (AsksCommit s j) z = tt
heard_grows u u' f p i (Ends s) z = tt
heard_grows u u' f p i (Enters w) z = tt
heard_grows u u' f p i (Restores g cs) z = tt
heard_grows u u' f p i AskFails z = tt
heard_grows u u' f p i (Took x) z = tt
heard_grows u u' f p i (Skips x y) z = tt
heard_grows u u' f p i (Came Ticks) z = tt
heard_grows u u' f p i (Came (Works x y)) z = tt
heard_grows u u' f p i (Came (Calls x y)) z = tt
heard_grows u u' f p i (Came (Operates x)) z = tt

-- ---- the messages of a step

in_with : (m x : Message) (ms : List Message) → In m (with_message ms x) → (x ≡ m) ⊎ In m ms
in_with m x [] (inl e) = inl e
in_with m x [] (inr h) = absurd h
in_with m x (y ∷ ys) h = go (message_lt x y) (message_eq x y) h (in_with m x ys)
  where
    go : (a b : Bool) → In m (elim a [ true ↦ x ∷ y ∷ ys | false ↦ elim b [ true ↦ y ∷ ys | false ↦ y ∷ with_message ys x ] ]) → (In m (with_message ys x) → (x ≡ m) ⊎ In m ys) → (x ≡ m) ⊎ In m (y ∷ ys)
    go true b (inl e) k = inl e
    go true b (inr q) k = inr q
    go false true q k = inr q
    go false false (inl e) k = inr (inl e)
    go false false (inr q) k = elim (k q) [ inl e ↦ inl e | inr z ↦ inr (inr z) ]

in_arranged : (m : Message) (ms : List Message) → In m (arranged ms) → In m ms
in_arranged m [] h = absurd h
in_arranged m (x ∷ ms) h = elim (in_with m x (arranged ms) h) [ inl e ↦ inl e | inr q ↦ inr (in_arranged m ms q) ]

took_left : (x : Taken) (i : Inc) (xs ys : List nodes.Act) (n : Node) → In x (nodes.does_all i xs n).took → In x (nodes.does_all i (xs ++ ys) n).took
took_left x i [] ys n h = absurd h
took_left x i (y ∷ xs) ys n h = elim (in_either x (nodes.does i y n).took (nodes.does_all i xs (nodes.does i y n).node).took h) [
  | inl z ↦ in_left x (nodes.does i y n).took (nodes.does_all i (xs ++ ys) (nodes.does i y n).node).took z
  | inr z ↦ in_right x (nodes.does i y n).took (nodes.does_all i (xs ++ ys) (nodes.does i y n).node).took (took_left x i xs ys (nodes.does i y n).node z)
]

longer : (xs ys : Life) → 1 < length ys → 1 < length (xs ++ ys)
longer xs ys h = let e : length (xs ++ ys) ≡ length xs + length ys = length-append xs ys in omega (arith, h, e)

-- ---- a member that begins to act

-- the nodes after its node did f and then these acts
abbrev with_acts : nodes.World → Inc → (Node → Effect) → Node → List nodes.Act → nodes.World
with_acts v i f n l = nodes.acted as_sent (nodes.makes v (nodes.all_made_by i l)) i (also (f n) (nodes.does_all i l))

-- g is the member once its node did f
record Acting (t : Setup) (w : World) (v : nodes.World) (s : Server) (n : Node) (f : Node → Effect) (g : Member) : Type 0 where
  here : v.at g.me.inc ≡ Some n
  node : g.node ≡ (f n).node
  sent : g.sent ≡ (f n).sent
  took : (f n).took ≡ []
  joins : (m : Message) → In m (f n).sent → is_joining m.wire ≡ false
  life : life_in w.past g.me.inc ≡ g.life
  begun : 1 < length g.life
  settled : is_settled g.me.inc g.life ≡ true
  setup : g.setup ≡ t
  server : g.me.inc.server ≡ s.number
  start : g.me.inc.start ≡ s.starts
  runs : running_in w.past g.me.inc.server ≡ Some g.me.inc
  run : (l : List nodes.Act) → IsNodeRun t (with_acts v g.me.inc f n l)

joins_ask : (x : Wire) → is_ask_or_give x ≡ true → is_joining x ≡ false → ⊥
joins_ask (Ask x) e h = absurd (false≢true (sym h))
joins_ask (Give x) e h = absurd (false≢true (sym h))
joins_ask (Greet x) e h = absurd (false≢true (sym h))
joins_ask (Prepare b s) e h = absurd (false≢true e)
joins_ask (Promise b s xs) e h = absurd (false≢true e)
joins_ask (Accept b t v) e h = absurd (false≢true e)
joins_ask (Accepted b t) e h = absurd (false≢true e)
joins_ask (Learn t v) e h = absurd (false≢true e)
joins_ask (Offer v) e h = absurd (false≢true e)
joins_ask (Alive k) e h = absurd (false≢true e)
joins_ask Gone e h = absurd (false≢true e)

some_is : {A : Type 0} {x y : A} → Some x ≡ Some y → x ≡ y
some_is {x = x} {y = y} e = cc

module _ (t : Setup) (w : World) (v : nodes.World) (inv : Inv t w v) (number : ℕ) (s : Server) (at_it : server_at w number ≡ Some s) (n : Node) (f : Node → Effect) (g b : Member) (a : Acting t w v s n f g)
    (e : Event) (acts : IsActs e g b) (named : (v' : nodes.World) → IsNodeRun t v' → Named (group_of t) v') (wired : (m : Message) → e ≡ Hears m → In m w.sent × (m.to ≡ g.me.inc)) where
  abbrev i : Inc
  i = g.me.inc

  abbrev past : Past
  past = dids g.me.inc acts.more ++ w.past

  abbrev next : World
  next = happens (dids g.me.inc acts.more) (put_member s b (record w { sent = w.sent ++ arranged b.sent }))

  abbrev after : nodes.World
  after = with_acts v g.me.inc f n acts.acts

  -- ---- the past of a part of what was left

  life_here : (rest : Life) → life_in (dids i rest ++ w.past) i ≡ rest ++ g.life
  life_here rest = life_of_dids i rest w.past ∙ ap (λ l. rest ++ l) a.life

  part : (later earlier : Life) → acts.more ≡ later ++ earlier → past ≡ dids i later ++ (dids i earlier ++ w.past)
  part later earlier q = ap (λ l. dids i l ++ w.past) q ∙ dids_then i later earlier w.past

  -- ---- what was made

  made_here : (u : Value) (rest : Life) → u.id.origin ≡ i → (holds : Option Body) × In (Made u holds) (rest ++ g.life) → WasMade (dids i rest ++ w.past) u
  made_here u rest o h = (h.0, subst (λ z. In (Does z (Made u h.0)) (dids i rest ++ w.past)) (sym o) (in_life i (Made u h.0) (dids i rest ++ w.past) (subst (λ l. In (Made u h.0) l) (sym (life_here rest)) h.1)))

  made_by_acts : (l : List nodes.Act) (rest : Life) → ((u : Value) → In u (nodes.all_made_by i l) → (holds : Option Body) × In (Made u holds) (rest ++ g.life)) → (u : Value) → In u (v.made ++ nodes.all_made_by i l) → WasMade (dids i rest ++ w.past) u
  made_by_acts l rest k u h = elim (in_either u v.made (nodes.all_made_by i l) h) [
    | inl z ↦ made_grows (dids i rest) w.past u (inv.made u z)
    | inr z ↦ made_here u rest (all_made_own i l u z) (k u z)
  ]

  -- ---- slots

  took_in : (d : Did) (rest : Life) (l more : List nodes.Act) (x : Taken) → In x (nodes.does_all i l g.node).took → d ≡ taken_left g.setup (rest ++ g.life) x → TookIn t (with_acts v i f n (l ++ more)) (dids i rest ++ w.past) i d
  took_in d rest l more x h q = (x, in_right _ v.took (nodes.took_by i ((f n).took ++ (nodes.does_all i (l ++ more) (f n).node).took)) (in_map (λ y. record { by = i; taken = y }) x ((f n).took ++ (nodes.does_all i (l ++ more) (f n).node).took) (in_right x (f n).took (nodes.does_all i (l ++ more) (f n).node).took (took_left x i l more (f n).node (subst (λ y. In x (nodes.does_all i l y).took) a.node h)))), left)
    where
      left : d ≡ taken_left t (life_in (dids i rest ++ w.past) i) x
      left = q ∙ (ap (λ y. taken_left y (rest ++ g.life) x) a.setup ∙ ap (λ y. taken_left t y x) (sym (life_here rest)))

  took_here : (d : Did) (rest : Life) → TookBy g acts.acts d (rest ++ g.life) → TookIn t after (dids i rest ++ w.past) i d
  took_here d rest k = subst (λ l. TookIn t (with_acts v i f n l) (dids i rest ++ w.past) i d) (sym k.some) (took_in d rest k.acts k.rest k.taken k.by k.left)

  took_then : (d : Did) (rest : Life) → TookBy g acts.acts d (rest ++ g.life) → TookThen t (dids i rest ++ w.past) i d
  took_then d rest k = record {
    world = with_acts v i f n k.acts;
    run = a.run k.acts;
    took = subst (λ l. TookIn t (with_acts v i f n l) (dids i rest ++ w.past) i d) (append-nil k.acts) (took_in d rest k.acts [] k.taken k.by k.left);
    made = made_by_acts k.acts rest k.made;
  }

  took_before : (p : Past) (j : Inc) (d : Did) → TookIn t v p j d → TookIn t after p j d
  took_before p j d k = (k.0, in_left (record { by = j; taken = k.0 }) v.took _ k.1, k.2)

  all_took : AllDid (OfSlots (TookIn t after)) past
  all_took = did_more (OfSlots (TookIn t after)) (TookRightly g acts.acts) i g.life w.past (λ d rest k. slots_by_acts g acts.acts (TookIn t after) (dids i rest ++ w.past) i (rest ++ g.life) (λ x z. took_here x rest z) d k) acts.more acts.took
      (did_map (OfSlots (TookIn t v)) (OfSlots (TookIn t after)) (slots_map (TookIn t v) (TookIn t after) took_before) w.past inv.took)

  all_mids : AllDid (OfSlots (TookThen t)) past
  all_mids = did_more (OfSlots (TookThen t)) (TookRightly g acts.acts) i g.life w.past (λ d rest k. slots_by_acts g acts.acts (TookThen t) (dids i rest ++ w.past) i (rest ++ g.life) (λ x z. took_then x rest z) d k) acts.more acts.took inv.mids

  slots_here : slots_by i after.took ≡ slots_in (life_in past i)
  slots_here =
      slots_of_one i v.took ((f n).took ++ (nodes.does_all i acts.acts (f n).node).took)
      ∙ (ap (λ l. slots_by i v.took ++ map (λ x. x.slot) (l ++ (nodes.does_all i acts.acts (f n).node).took)) a.took
      ∙ (ap (λ y. slots_by i v.took ++ map (λ x. x.slot) (nodes.does_all i acts.acts y).took) (sym a.node)
      ∙ (ap (λ l. slots_by i v.took ++ l) acts.slots
      ∙ (ap (λ l. l ++ slots_in acts.more) (inv.slots i ∙ ap slots_in a.life)
      ∙ (sym (slots_then acts.more g.life) ∙ ap slots_in (sym (life_here acts.more)))))))

  all_slots : (j : Inc) → slots_by j after.took ≡ slots_in (life_in past j)
  all_slots j = elim (cases_Bool (inc_eq i j)) [
    | inl q ↦ subst (λ z. slots_by z after.took ≡ slots_in (life_in past z)) (inc_is i j q) slots_here
    | inr q ↦ slots_of_other i j v.took ((f n).took ++ (nodes.does_all i acts.acts (f n).node).took) q ∙ (inv.slots j ∙ ap slots_in (sym (life_of_others i j acts.more w.past q)))
  ]

  -- ---- what was done

  abbrev Allowed : Did → Life → Type 0
  Allowed d l = IsAllowed e g.setup i d l × IsAfterAll i d l

  done_here : (d : Did) (rest : Life) → Allowed d (rest ++ g.life) → IsDone t (dids i rest ++ w.past) i d
  done_here d rest h = go d allowed after_all
    where
      p : Past
      p = dids i rest ++ w.past

      run : (x : Did) → IsAfterAll i x (life_in (dids i rest ++ w.past) i) → IsActive (dids i rest ++ w.past) i x
      run x z = record { running = running_of_dids i rest w.past a.runs; begun = subst (λ l. 1 < length l) (sym (life_here rest)) (longer rest g.life a.begun); settled = z }

      after_all : IsAfterAll i d (life_in (dids i rest ++ w.past) i)
      after_all = subst (λ l. IsAfterAll i d l) (sym (life_here rest)) h.1

      allowed : IsAllowed e t i d (life_in (dids i rest ++ w.past) i)
      allowed = subst (λ l. IsAllowed e t i d l) (sym (life_here rest)) (subst (λ y. IsAllowed e y i d (rest ++ g.life)) a.setup h.0)

      go : (x : Did) → IsAllowed e t i x (life_in (dids i rest ++ w.past) i) → IsAfterAll i x (life_in (dids i rest ++ w.past) i) → IsDone t (dids i rest ++ w.past) i x
      go Founds k z = absurd k
      go (Starts x) k z = absurd k
      go (Came (Hears m)) k z = let y = wired m (sym k) in (run (Came (Hears m)) z, y.1, sent_grows t (dids i rest) w.past m (inv.told m y.0))
      go (Came Ticks) k z = (run (Came Ticks) z, (e, k))
      go (Came (Works n x)) k z = (run (Came (Works n x)) z, (e, k))
      go (Came (Calls n r)) k z = (run (Came (Calls n r)) z, (e, k))
      go (Came (Operates o)) k z = (run (Came (Operates o)) z, (e, k))
      go (Is x c) k z = inr (run (Is x c) z, (e, k))
      go (Made v h) k z = (run (Made v h) z, (e, k))
      go (Done n) k z = (run (Done n) z, (e, k))
      go (Committed x) k z = (run (Committed x) z, (e, k))
      go (Gave n m) k z = (run (Gave n m) z, (e, k))
      go (Answered s x) k z = (run (Answered s x) z, (e, k))
      go (Begun s x y) k z = (run (Begun s x y) z, (e, k))
      go (Changed s c) k z = (run (Changed s c) z, (e, k))
      go (Replied r) k z = (run (Replied r) z, (e, k))
      go (Called s v w) k z = (run (Called s v w) z, (e, k))
      go (AsksCommit s j) k z = (run (AsksCommit s j) z, (e, k))
      go (Ends s) k z = (run (Ends s) z, (e, k))
      go (Enters w) k z = (run (Enters w) z, (e, k))
      go (Restores x cs) k z = (run (Restores x cs) z, (e, k))
      go AskFails k z = (run AskFails z, (e, k))
      go (Took x) k z = (run (Took x) z, (e, k))
      go (Skips x y) k z = (run (Skips x y) z, (e, k))

  all_done : AllDid (IsDone t) past
  all_done = did_more (IsDone t) Allowed i g.life w.past done_here acts.more (both acts.more acts.allowed (acts.settled a.settled).1) inv.done
    where
      both : (xs : Life) → Each (IsAllowed e g.setup i) xs g.life → Each (IsAfterAll i) xs g.life → Each Allowed xs g.life
      both [] h k = tt
      both (d ∷ xs) h k = ((h.0, k.0), both xs h.1 k.1)

  -- ---- messages

  greeted_here : (m : Message) (x : Welcome) → GreetedBy g acts.more m x → WasGreeted t past m x
  greeted_here m x k = record {
    who = i;
    before = dids i k.earlier ++ w.past;
    add = k.add;
    took = subst (λ p. IsPast (Does i (Took k.add) ∷ dids i k.earlier ++ w.past) p) (sym (part k.later (Took k.add ∷ k.earlier) k.split)) (past_of_more (dids i k.later) (Does i (Took k.add) ∷ dids i k.earlier ++ w.past));
    joiner = k.joiner;
    adds = k.adds;
    effect = k.effect;
    to = k.to;
    up = subst (λ l. is_up (state l) ≡ true) (sym (life_here k.earlier)) k.up;
    node = k.node;
    turns = k.turns;
    welcome = subst (λ l. x ≡ welcome_of k.node k.turns (shown (view t (Took k.add ∷ l)))) (sym (life_here k.earlier)) (subst (λ y. x ≡ welcome_of k.node k.turns (shown (view y (Took k.add ∷ k.earlier ++ g.life)))) a.setup k.welcome);
  }

  told_here : (m : Message) → SentBy g acts.acts acts.more m → WasTold t past m
  told_here m k = (dids i k.earlier ++ w.past, subst (λ p. IsPast (dids i k.earlier ++ w.past) p) (sym (part k.later k.earlier k.split)) (past_of_more (dids i k.later) (dids i k.earlier ++ w.past)), is_sent)
    where
      after_them : Node
      after_them = (nodes.does_all i k.acts (f n).node).node

      me : (nodes.does_all i k.acts (f n).node).node.me ≡ i
      me = named (with_acts v i f n k.acts) (a.run k.acts) i after_them (put_here v.at i after_them)

      from : m.from ≡ i
      from = k.from ∙ (ap (λ y. (nodes.does_all i k.acts y).node.me) a.node ∙ me)

      is_sent : IsSent t (life_in (dids i k.earlier ++ w.past) m.from) m.to m.wire
      is_sent = subst (λ j. IsSent t (life_in (dids i k.earlier ++ w.past) j) m.to m.wire) (sym from) (subst (λ l. IsSent t l m.to m.wire) (sym (life_here k.earlier)) (subst (λ y. IsSent y (k.earlier ++ g.life) m.to m.wire) a.setup k.sent))

  not_begun : (m : Message) → is_joining m.wire ≡ true → In m g.sent → ⊥
  not_begun m j h = absurd (false≢true (sym (a.joins m (subst (λ l. In m l) a.sent h)) ∙ j))

  sent_here : (m : Message) → In m b.sent → WasSent t past m
  sent_here m h = go m.wire refl
    where
      asks : is_ask_or_give m.wire ≡ true → is_joining m.wire ≡ true → WasTold t past m
      asks q j = elim (acts.asked m h q) [ inl z ↦ absurd (not_begun m j z) | inr z ↦ told_here m z ]

      go : (x : Wire) → m.wire ≡ x → WasSentAs t past m x
      go (Greet x) q = elim (acts.greeted m x h q) [ inl z ↦ absurd (not_begun m (ap is_joining q) z) | inr z ↦ greeted_here m x z ]
      go (Ask x) q = asks (ap is_ask_or_give q) (ap is_joining q)
      go (Give x) q = asks (ap is_ask_or_give q) (ap is_joining q)
      go (Prepare y z) q = tt
      go (Promise y z xs) q = tt
      go (Accept y z u) q = tt
      go (Accepted y z) q = tt
      go (Learn z u) q = tt
      go (Offer u) q = tt
      go (Alive z) q = tt
      go Gone q = tt

  all_told : (m : Message) → In m (w.sent ++ arranged b.sent) → WasSent t past m
  all_told m h = elim (in_either m w.sent (arranged b.sent) h) [ inl z ↦ sent_grows t (dids i acts.more) w.past m (inv.told m z) | inr z ↦ sent_here m (in_arranged m b.sent z) ]

  all_sent : (m : Message) → In m (w.sent ++ arranged b.sent) → In m after.wire ⊎ (is_apart m.wire ≡ true)
  all_sent m h = elim (in_either m w.sent (arranged b.sent) h) [
    | inl z ↦ elim (inv.sent m z) [ inl y ↦ inl (in_left m v.wire (also (f n) (nodes.does_all i acts.acts)).sent y) | inr y ↦ inr y ]
    | inr z ↦ elim (acts.sent m (in_arranged m b.sent z)) [
      | inl y ↦ inl (in_right m v.wire (also (f n) (nodes.does_all i acts.acts)).sent (in_left m (f n).sent (nodes.does_all i acts.acts (f n).node).sent (subst (λ l. In m l) a.sent y)))
      | inr y ↦ elim y [
        | inl x ↦ inl (in_right m v.wire (also (f n) (nodes.does_all i acts.acts)).sent (in_right m (f n).sent (nodes.does_all i acts.acts (f n).node).sent (subst (λ k. In m (nodes.does_all i acts.acts k).sent) a.node x)))
        | inr x ↦ inr x
      ]
    ]
  ]

  heard_here : (d : Did) (rest : Life) → IsAllowed e g.setup i d (rest ++ g.life) → HeardIn after (dids i rest ++ w.past) i d
  heard_here (Came (Hears m)) rest h = elim (inv.sent m (wired m (sym h)).0) [ inl z ↦ inl (in_left m v.wire (also (f n) (nodes.does_all i acts.acts)).sent z) | inr z ↦ inr z ]
  heard_here Founds rest z = tt
  heard_here (Starts x) rest z = tt
  heard_here (Made v h) rest z = tt
  heard_here (Done n) rest z = tt
  heard_here (Committed x) rest z = tt
  heard_here (Is s c) rest z = tt
  heard_here (Gave n m) rest z = tt
  heard_here (Answered s x) rest z = tt
  heard_here (Begun s x y) rest z = tt
  heard_here (Changed s c) rest z = tt
  heard_here (Replied r) rest z = tt
  heard_here (Called s v w) rest z = tt
  heard_here (AsksCommit s j) rest z = tt
  heard_here (Ends s) rest z = tt
  heard_here (Enters w) rest z = tt
  heard_here (Restores x cs) rest z = tt
  heard_here AskFails rest z = tt
  heard_here (Took x) rest z = tt
  heard_here (Skips x y) rest z = tt
  heard_here (Came Ticks) rest z = tt
  heard_here (Came (Works x y)) rest z = tt
  heard_here (Came (Calls x y)) rest z = tt
  heard_here (Came (Operates x)) rest z = tt

  all_heard : AllDid (HeardIn after) past
  all_heard = did_more (HeardIn after) (IsAllowed e g.setup i) i g.life w.past heard_here acts.more acts.allowed (did_map (HeardIn v) (HeardIn after) (heard_grows v after (λ m h. in_left m v.wire (also (f n) (nodes.does_all i acts.acts)).sent h)) w.past inv.heard)

  -- ---- servers

  abbrev put : Server
  put = record s { running = Some b }

  started_grows : (j : Inc) → WasStarted w j → WasStarted next j
  started_grows j k = elim (cases_Bool (eqb s.number j.server)) [
    | inl q ↦ (put, here q, started q)
    | inr q ↦ (k.0, put_other put w j.server q ∙ k.1, k.2)
  ]
    where
      here : (s.number == j.server) ≡ true → server_at next j.server ≡ Some put
      here q = subst (λ z. server_at (put_server put w) z ≡ Some put) (eqb-true s.number j.server q) (put_same put w)

      started : (s.number == j.server) ≡ true → j.start ≤ put.starts
      started q =
          let there : server_at w j.server ≡ Some s = subst (λ z. server_at w z ≡ Some s) (sym (number_of w number s at_it) ∙ eqb-true s.number j.server q) at_it in
          subst (λ x. j.start ≤ x.starts) (some_is (sym k.1 ∙ there)) k.2

  started_here : WasStarted next i
  started_here = (put, subst (λ z. server_at (put_server put w) z ≡ Some put) (sym a.server) (put_same put w), omega (arith, a.start))

  of_server : (k : ℕ) (x : Server) (y : Member) → server_at w k ≡ Some x → x.running ≡ Some y → (s.number == k) ≡ false → inc_eq i y.me.inc ≡ false
  of_server k x y q r z = elim (cases_Bool (inc_eq i y.me.inc)) [
    | inl h ↦ (let same : i ≡ y.me.inc = inc_is i y.me.inc h in
        let o = inv.running k x y q r in
        let m : s.number ≡ k = sym a.server ∙ (ap (λ j. j.server) same ∙ (o.server ∙ number_of w k x q)) in
        absurd (false≢true (sym z ∙ eq-eqb s.number k m)))
    | inr h ↦ h
  ]

  run_here : IsRunning t next after put b
  run_here = record {
    setup = acts.setup ∙ a.setup;
    server = ap (λ j. j.inc.server) acts.me ∙ a.server;
    start = ap (λ j. j.inc.start) acts.me ∙ a.start;
    node = ap (λ j. after.at j.inc) acts.me ∙ (put_here v.at i (nodes.does_all i acts.acts (f n).node).node ∙ ap Some (ap (λ y. (nodes.does_all i acts.acts y).node) (sym a.node) ∙ sym acts.node));
    life = ap (λ j. life_in past j.inc) acts.me ∙ (life_here acts.more ∙ sym acts.grown);
    begun = subst (λ l. 1 < length l) (sym acts.grown) (longer acts.more g.life a.begun);
    settled = subst (λ j. is_settled j.inc b.life ≡ true) (sym acts.me) (acts.settled a.settled).0;
  }

  all_running : (k : ℕ) (x : Server) (y : Member) → server_at next k ≡ Some x → x.running ≡ Some y → IsRunning t next after x y
  all_running k x y q r = elim (put_cases put w k x q) [
    | inl z ↦ subst (λ c. IsRunning t next after c y) z.1 (subst (λ c. IsRunning t next after put c) (some_is (subst (λ c. c.running ≡ Some y) (sym z.1) r)) run_here)
    | inr z ↦ (let o = inv.running k x y z.1 r in
        let apart : inc_eq i y.me.inc ≡ false = of_server k x y z.1 r z.0 in
        record { setup = o.setup; server = o.server; start = o.start; node = put_there v.at i y.me.inc _ apart ∙ o.node; life = life_of_others i y.me.inc acts.more w.past apart ∙ o.life; begun = o.begun; settled = o.settled })
  ]

  all_runs : (k : ℕ) (x : Server) → server_at next k ≡ Some x → running_in past k ≡ inc_of x.running
  all_runs k x q = elim (put_cases put w k x q) [
    | inl z ↦ subst (λ c. running_in past k ≡ inc_of c.running) z.1 (subst (λ c. running_in past c ≡ Some b.me.inc) (a.server ∙ z.0) (running_of_dids i acts.more w.past a.runs ∙ ap (λ j. Some j.inc) (sym acts.me)))
    | inr z ↦ running_of_others i acts.more w.past k (subst (λ c. (c == k) ≡ false) (sym a.server) z.0) ∙ inv.runs k x z.1
  ]

  all_stored : (k : ℕ) (x : Server) → server_at next k ≡ Some x → x.stored ≡ stored_in past k
  all_stored k x q = elim (put_cases put w k x q) [
    | inl z ↦ subst (λ c. c.stored ≡ stored_in past k) z.1 (inv.stored number s at_it ∙ (ap (λ m. stored_in w.past m) (sym (number_of w number s at_it) ∙ z.0) ∙ sym (stored_of_dids i acts.more w.past k)))
    | inr z ↦ inv.stored k x z.1 ∙ sym (stored_of_dids i acts.more w.past k)
  ]

  all_unknown : (k : ℕ) → server_at next k ≡ None → (running_in past k ≡ None) × (stored_in past k ≡ nothing_stored)
  all_unknown k q = elim (cases_Bool (eqb s.number k)) [
    | inl z ↦ (let there : server_at next k ≡ Some put = subst (λ c. server_at (put_server put w) c ≡ Some put) (eqb-true s.number k z) (put_same put w) in let no : None ≡ Some put = sym q ∙ there in absurd (cc))
    | inr z ↦ (let u = inv.unknown k (sym (put_other put w k z) ∙ q) in (running_of_others i acts.more w.past k (subst (λ c. (c == k) ≡ false) (sym a.server) z) ∙ u.0, stored_of_dids i acts.more w.past k ∙ u.1))
  ]

  all_known : (j : Inc) → (after.at j ≡ None) ⊎ WasStarted next j
  all_known j = elim (cases_Bool (inc_eq i j)) [
    | inl q ↦ inr (subst (λ z. WasStarted next z) (inc_is i j q) started_here)
    | inr q ↦ elim (inv.known j) [ inl z ↦ inl (put_there v.at i j _ q ∙ z) | inr z ↦ inr (started_grows j z) ]
  ]

  all_there : (j : Inc) → (life_in past j ≡ []) ⊎ ((m : Node) × (after.at j ≡ Some m))
  all_there j = elim (cases_Bool (inc_eq i j)) [
    | inl q ↦ inr (node_now, subst (λ z. after.at z ≡ Some node_now) (inc_is i j q) (put_here v.at i node_now))
    | inr q ↦ elim (inv.there j) [ inl z ↦ inl (life_of_others i j acts.more w.past q ∙ z) | inr z ↦ inr (z.0, put_there v.at i j node_now q ∙ z.1) ]
  ]
    where
      node_now : Node
      node_now = (nodes.does_all i acts.acts (f n).node).node

  all_lives : (j : Inc) → (life_in past j ≡ []) ⊎ WasStarted next j
  all_lives j = elim (cases_Bool (inc_eq i j)) [
    | inl q ↦ inr (subst (λ z. WasStarted next z) (inc_is i j q) started_here)
    | inr q ↦ elim (inv.lives j) [ inl z ↦ inl (life_of_others i j acts.more w.past q ∙ z) | inr z ↦ inr (started_grows j z) ]
  ]

  acted_keeps : Inv t next after
  acted_keeps = record {
    run = a.run acts.acts;
    ended = inv.ended;
    running = all_running;
    runs = all_runs;
    stored = all_stored;
    unknown = all_unknown;
    founders = λ j h. started_grows j (inv.founders j h);
    known = all_known;
    lives = all_lives;
    there = all_there;
    sent = all_sent;
    told = all_told;
    took = all_took;
    mids = all_mids;
    heard = all_heard;
    made = made_by_acts acts.acts acts.more (λ u h. let y = acts.made u h in (y.0, in_left (Made u y.0) acts.more g.life y.1));
    slots = all_slots;
    done = all_done;
  }

-- ---- a step

abbrev pub Laws : Setup → Type 0
Laws t = (v : nodes.World) → IsNodeRun t v → Named (group_of t) v

module _ (t : Setup) (named : Laws t) (takes_none : HearingTakesNone) (greets_nobody : HearingGreetsNobody) where
  pub stepped_keeps : (w : World) (v : nodes.World) → Inv t w v → (number : ℕ) (s : Server) → server_at w number ≡ Some s → (a : Member) → s.running ≡ Some a → (e : Event) → ((m : Message) → e ≡ Hears m → In m w.sent × (m.to ≡ a.me.inc)) → StepIsActs e a →
      (v' : nodes.World) × Inv t (stepped s a (step e a) w) v'
  stepped_keeps w v inv number s at_it a r e wired x = elim x.begins [
    | inl q ↦ quietly x.begin q x.is_acts
    | inr q ↦ heard q.0 q.1 q.2 x.begin q.3 x.is_acts
  ]
    where
      o : IsRunning t w v s a
      o = inv.running number s a at_it r

      runs : running_in w.past a.me.inc.server ≡ Some a.me.inc
      runs = ap (λ k. running_in w.past k) (o.server ∙ number_of w number s at_it) ∙ (inv.runs number s at_it ∙ ap inc_of r)

      -- what is left is what the history has more
      as_stepped : (b g : Member) → g.me ≡ a.me → g.life ≡ a.life → (acts : IsActs e g b) → happens (dids g.me.inc acts.more) (put_member s b (record w { sent = w.sent ++ arranged b.sent })) ≡ stepped s a b w
      as_stepped b g me life acts = ap (λ j. happens (dids j.inc acts.more) (put_member s b (record w { sent = w.sent ++ arranged b.sent }))) me ∙ ap (λ l. happens (dids a.me.inc l) (put_member s b (record w { sent = w.sent ++ arranged b.sent }))) (sym left)
        where
          grown : b.life ≡ acts.more ++ a.life
          grown = acts.grown ∙ ap (λ l. acts.more ++ l) life

          left : take (length b.life - length a.life) b.life ≡ acts.more
          left = ap (λ l. take (length l - length a.life) l) grown ∙ take_more acts.more a.life

      acting : (f : Node → Effect) (g : Member) → g.me ≡ a.me → g.life ≡ a.life → g.setup ≡ a.setup → g.node ≡ (f a.node).node → g.sent ≡ (f a.node).sent → (f a.node).took ≡ [] → ((m : Message) → In m (f a.node).sent → is_joining m.wire ≡ false) →
          ((l : List nodes.Act) → IsNodeRun t (with_acts v a.me.inc f a.node l)) → Acting t w v s a.node f g
      acting f g me life setup node sent took joins run = record {
        here = ap (λ j. v.at j.inc) me ∙ o.node;
        node = node;
        sent = sent;
        took = took;
        joins = joins;
        life = ap (λ j. life_in w.past j.inc) me ∙ (o.life ∙ sym life);
        begun = subst (λ l. 1 < length l) (sym life) o.begun;
        settled = subst (λ j. is_settled j.inc g.life ≡ true) (sym me) (subst (λ l. is_settled a.me.inc l ≡ true) (sym life) o.settled);
        setup = setup ∙ o.setup;
        server = ap (λ j. j.inc.server) me ∙ o.server;
        start = ap (λ j. j.inc.start) me ∙ o.start;
        runs = subst (λ j. running_in w.past j.inc.server ≡ Some j.inc) (sym me) runs;
        run = λ l. subst (λ j. IsNodeRun t (with_acts v j.inc f a.node l)) (sym me) (run l);
      }

      keeps : (f : Node → Effect) (g : Member) → g.me ≡ a.me → g.life ≡ a.life → Acting t w v s a.node f g → IsActs e g (step e a) → (v' : nodes.World) × Inv t (stepped s a (step e a) w) v'
      keeps f g me life k acts = (
        with_acts v g.me.inc f a.node acts.acts,
        subst (λ z. Inv t z (with_acts v g.me.inc f a.node acts.acts)) (as_stepped (step e a) g me life acts)
            (acted_keeps t w v inv number s at_it a.node f g (step e a) k e acts named (λ m q. let z = wired m q in (z.0, z.1 ∙ ap (λ j. j.inc) (sym me)))),
      )

      quietly : (g : Member) → g ≡ cleared a → IsActs e g (step e a) → (v' : nodes.World) × Inv t (stepped s a (step e a) w) v'
      quietly g q acts = keeps quiet g (ap (λ c. c.me) q) (ap (λ c. c.life) q)
          (acting quiet g (ap (λ c. c.me) q) (ap (λ c. c.life) q) (ap (λ c. c.setup) q) (ap (λ c. c.node) q) (ap (λ c. c.sent) q) refl (λ m h. absurd h) (λ l. subst (λ z. IsNodeRun t z) (acted_on v a.me.inc l quiet a.node o.node inv.ended) (one_more t v (nodes.Does a.me.inc l) inv.run))) acts

      heard : (m : Message) → e ≡ Hears m → is_apart m.wire ≡ false → (g : Member) → g ≡ at_node (Heard m) (cleared a) → IsActs e g (step e a) → (v' : nodes.World) × Inv t (stepped s a (step e a) w) v'
      heard m q apart g h acts = keeps (node_step (Heard m)) g (ap (λ c. c.me) h) (ap (λ c. c.life) h)
          (acting (node_step (Heard m)) g (ap (λ c. c.me) h) (ap (λ c. c.life) h) (ap (λ c. c.setup) h) (ap (λ c. c.node) h) (ap (λ c. c.sent) h) (takes_none m a.node) (λ x z. greets_nobody m a.node x z) runs_on) acts
        where
          on_wire : In m v.wire
          on_wire = elim (inv.sent m (wired m q).0) [ inl z ↦ z | inr z ↦ absurd (false≢true (sym apart ∙ z)) ]

          to : m.to ≡ a.me.inc
          to = (wired m q).1

          runs_on : (l : List nodes.Act) → IsNodeRun t (with_acts v a.me.inc (node_step (Heard m)) a.node l)
          runs_on l =
              let k = index_of v.wire m on_wire in
              let there : v.at m.to ≡ Some a.node = ap v.at to ∙ o.node in
              subst (λ j. IsNodeRun t (with_acts v j (node_step (Heard m)) a.node l)) to
              (subst (λ z. IsNodeRun t z) (heard_on v k.0 m l a.node k.1 there inv.ended) (one_more t v (nodes.Hears k.0 l) inv.run))
