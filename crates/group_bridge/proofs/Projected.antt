-- What follows from moves: the node comes from a list of acts, the messages are theirs or aren't the node's, the history grows.
use Rattle.std.proofs.Common.{not, append_assoc, append-nil, ◌≡◌, ◌⊎◌, inl, inr, Bool, true, false, Option, Some, None, List, [], ◌∷◌, ◌++◌, refl, sym, ◌∙◌, ap, subst}
use Rattle.std.specs.Prelude.{ℕ, ◌||◌, if◌then◌else◌, map, flat_map}
use Rattle.std.proofs.lemmas.Bool.{false≢true}
use Rattle.gr_ids.specs.Names.{inc_eq}
use Rattle.gr_ids.specs.declared.names.Inc.{Inc}
use Rattle.slot_values.specs.declared.value.Value.{Value}
use Rattle.slot_values.specs.declared.kept.Kept.{Kept}
use Rattle.slot_values.specs.declared.kept.Kept.TheVariants.{At as KeptAt, Skipped as IsSkipped}
use Rattle.txn_forms.specs.declared.body.Body.{Body}
use Rattle.paxos_forms.specs.declared.message.Message.{Message}
use Rattle.paxos_forms.specs.declared.message.Wire.{Wire}
use Rattle.node_rules.specs.Lists.{In}
use Rattle.node_rules.specs.Node.{Node, message, takes_effect}
use Rattle.node_rules.specs.declared.taken.Taken.{Taken}
use Rattle.node_rules.specs.Taking.{take}
use Rattle.node_rules.specs.Welcoming.{Shown, welcome_of}
use Rattle.node_rules.specs.World.{Act, Owns, Campaigns, Ticks, Proposes, Takes, does, does_all, greets, greet_by, made_by, all_made_by}
use Rattle.order_laws.specs.Laws.{is_taking, is_joining, OnlyTakingTakes, OnlyTakingGreets, TakingIsSilent}
use Rattle.group_rules.specs.declared.marks.Cause.TheVariants.{OwnOnline, Removed, Welcomed}
use Rattle.gr_ids.specs.declared.levels.MemberState.TheVariants.{Offline, Recovering, Online, Error}
use Rattle.slot_values.specs.declared.value.Joiner.{Joiner}
use Rattle.slot_values.specs.declared.value.What.{What}
use Rattle.slot_values.specs.declared.value.What.TheVariants.{Noop, Add, Remove, Body as Says}
use Rattle.slot_values.specs.Log.{Turns}
use Rattle.paxos_forms.specs.declared.message.Wire.TheVariants.{Prepare, Promise, Accept, Accepted, Learn, Offer, Welcome as Greet, Ask, Give, Alive, Gone}
use Rattle.paxos_forms.specs.declared.welcome.Welcome.{Welcome}
use Rattle.group_rules.specs.declared.marks.Effect.TheVariants.{Plain}
use Rattle.group_rules.specs.Events.{Event, Did, Founds, Starts, Came, Made, Took, Skips, Done, Committed, Is, Gave, Answered, Begun, Changed, Replied, Called, AsksCommit, Ends, Enters, Restores, AskFails, Life, Entry}
use Rattle.group_rules.specs.Life.{state, is_up, view}
use Rattle.group_rules.specs.View.{shown}
use Rattle.group_rules.specs.Parts.{open_parts, held}
use Rattle.group_rules.specs.Member.{Member}
use Rattle.group_rules.specs.Taking.{effect_of, entry_of}
use Rattle.group_bridge.specs.Left.{IsLeft, is_settled, IsAfterAll, IsSent, slot_left, taken_left, is_arrival_of, is_exit_of, own_state, with_state}
use Rattle.group_bridge.specs.Moves.{is_apart, is_inner, is_ask_or_give, IsShown, IsRead, reads, Moves, Stays, Leaves, Sends, Acts, Makes, Welcomes, Reads, Then, Each, IsAllowed, TookBy, TookRightly, SentBy, GreetedBy, slots_in, IsActs, StepIsActs}
use Rattle.group_bridge.proofs.Lists.{in_left, in_right, in_either}
use Rattle.group_bridge.proofs.Taken.{steps}

-- ---- one list of acts after another

node_then : (i : Inc) (xs ys : List Act) (n : Node) → (does_all i (xs ++ ys) n).node ≡ (does_all i ys (does_all i xs n).node).node
node_then i [] ys n = refl
node_then i (x ∷ xs) ys n = node_then i xs ys (does i x n).node

sent_left : (m : Message) (i : Inc) (xs ys : List Act) (n : Node) → In m (does_all i xs n).sent → In m (does_all i (xs ++ ys) n).sent
sent_left m i [] ys n h = absurd h
sent_left m i (x ∷ xs) ys n h = go (in_either m (does i x n).sent (does_all i xs (does i x n).node).sent h) (sent_left m i xs ys (does i x n).node)
  where
    go : In m (does i x n).sent ⊎ In m (does_all i xs (does i x n).node).sent → (In m (does_all i xs (does i x n).node).sent → In m (does_all i (xs ++ ys) (does i x n).node).sent) → In m ((does i x n).sent ++ (does_all i (xs ++ ys) (does i x n).node).sent)
    go (inl p) k = in_left m (does i x n).sent (does_all i (xs ++ ys) (does i x n).node).sent p
    go (inr q) k = in_right m (does i x n).sent (does_all i (xs ++ ys) (does i x n).node).sent (k q)

sent_right : (m : Message) (i : Inc) (xs ys : List Act) (n : Node) → In m (does_all i ys (does_all i xs n).node).sent → In m (does_all i (xs ++ ys) n).sent
sent_right m i [] ys n h = h
sent_right m i (x ∷ xs) ys n h = in_right m (does i x n).sent (does_all i (xs ++ ys) (does i x n).node).sent (sent_right m i xs ys (does i x n).node h)

took_right : (x : Taken) (i : Inc) (xs ys : List Act) (n : Node) → In x (does_all i ys (does_all i xs n).node).took → In x (does_all i (xs ++ ys) n).took
took_right x i [] ys n h = h
took_right x i (y ∷ xs) ys n h = in_right x (does i y n).took (does_all i (xs ++ ys) (does i y n).node).took (took_right x i xs ys (does i y n).node h)

-- what two lists of acts make
made_either : (v : Value) (i : Inc) (xs ys : List Act) → In v (all_made_by i (xs ++ ys)) → In v (all_made_by i xs) ⊎ In v (all_made_by i ys)
made_either v i [] ys h = inr h
made_either v i (x ∷ xs) ys h = go (in_either v (made_by i x) (all_made_by i (xs ++ ys)) h) (made_either v i xs ys)
  where
    go : In v (made_by i x) ⊎ In v (all_made_by i (xs ++ ys)) → (In v (all_made_by i (xs ++ ys)) → In v (all_made_by i xs) ⊎ In v (all_made_by i ys)) → In v (made_by i x ++ all_made_by i xs) ⊎ In v (all_made_by i ys)
    go (inl p) k = inl (in_left v (made_by i x) (all_made_by i xs) p)
    go (inr q) k = elim (k q) [ inl z ↦ inl (in_right v (made_by i x) (all_made_by i xs) z) | inr z ↦ inr z ]

-- ---- things left, one after another

each_join : (P : Did → Life → Type 0) (xs ys base : Life) → Each P xs (ys ++ base) → Each P ys base → Each P (xs ++ ys) base
each_join P [] ys base p q = q
each_join P (d ∷ xs) ys base p q = (subst (λ l. P d l) (sym (append_assoc xs ys base)) p.0, each_join P xs ys base p.1 q)

-- each of them is left by a history that goes on from the base
each_map : (P Q : Did → Life → Type 0) (base xs : Life) → ((d : Did) (more : Life) → P d (more ++ base) → Q d (more ++ base)) → Each P xs base → Each Q xs base
each_map P Q base [] h p = tt
each_map P Q base (d ∷ xs) h p = (h d xs p.0, each_map P Q base xs h p.1)

slots_then : (xs ys : Life) → slots_in (xs ++ ys) ≡ slots_in ys ++ slots_in xs
slots_then [] ys = sym (append-nil (slots_in ys))
slots_then (Took x ∷ xs) ys = ap (λ l. l ++ x.slot ∷ []) (slots_then xs ys) ∙ append_assoc (slots_in ys) (slots_in xs) (x.slot ∷ [])
slots_then (Skips t v ∷ xs) ys = ap (λ l. l ++ t ∷ []) (slots_then xs ys) ∙ append_assoc (slots_in ys) (slots_in xs) (t ∷ [])
slots_then (Founds ∷ xs) ys = slots_then xs ys
slots_then (Starts x ∷ xs) ys = slots_then xs ys
slots_then (Came x ∷ xs) ys = slots_then xs ys
slots_then (Made v h ∷ xs) ys = slots_then xs ys
slots_then (Done p ∷ xs) ys = slots_then xs ys
slots_then (Committed g ∷ xs) ys = slots_then xs ys
slots_then (Is s c ∷ xs) ys = slots_then xs ys
slots_then (Gave p n ∷ xs) ys = slots_then xs ys
slots_then (Answered s x ∷ xs) ys = slots_then xs ys
slots_then (Begun s x y ∷ xs) ys = slots_then xs ys
slots_then (Changed s c ∷ xs) ys = slots_then xs ys
slots_then (Replied r ∷ xs) ys = slots_then xs ys
slots_then (Called s v w ∷ xs) ys = slots_then xs ys
slots_then (AsksCommit s i ∷ xs) ys = slots_then xs ys
slots_then (Ends s ∷ xs) ys = slots_then xs ys
slots_then (Enters w ∷ xs) ys = slots_then xs ys
slots_then (Restores g cs ∷ xs) ys = slots_then xs ys
slots_then (AskFails ∷ xs) ys = slots_then xs ys

map_then : {A B : Type 0} (f : A → B) (xs ys : List A) → map f (xs ++ ys) ≡ map f xs ++ map f ys
map_then f [] ys = refl
map_then f (x ∷ xs) ys = ap (λ l. f x ∷ l) (map_then f xs ys)

took_then_list : (i : Inc) (xs ys : List Act) (n : Node) → (does_all i (xs ++ ys) n).took ≡ (does_all i xs n).took ++ (does_all i ys (does_all i xs n).node).took
took_then_list i [] ys n = refl
took_then_list i (x ∷ xs) ys n = ap (λ l. (does i x n).took ++ l) (took_then_list i xs ys (does i x n).node) ∙ sym (append_assoc (does i x n).took (does_all i xs (does i x n).node).took (does_all i ys (does_all i xs (does i x n).node).node).took)

-- ---- messages

-- a message is there before, sent by the acts, or not the node's
abbrev Sent : Message → List Message → Inc → List Act → Node → Type 0
Sent m before i xs n = In m before ⊎ (In m (does_all i xs n).sent ⊎ (is_apart m.wire ≡ true))

one_sent : (m : Message) (x : Act) (a : Member) → In m (a.sent ++ (does a.me.inc x a.node).sent) → Sent m a.sent a.me.inc (x ∷ []) a.node
one_sent m x a h = elim (in_either m a.sent (does a.me.inc x a.node).sent h) [ inl p ↦ inl p | inr q ↦ inr (inl (in_left m (does a.me.inc x a.node).sent [] q)) ]

apart_sent : (m : Message) (i : Inc) (x : Wire) (a : Member) → is_apart x ≡ true → In m (a.sent ++ message a.node i x ∷ []) → Sent m a.sent a.me.inc [] a.node
apart_sent m i x a w h = elim (in_either m a.sent (message a.node i x ∷ []) h) [
  | inl p ↦ inl p
  | inr q ↦ elim q [ inl e ↦ inr (inr (subst (λ k. is_apart k.wire ≡ true) e w)) | inr z ↦ absurd z ]
]

after_sent : (m : Message) (e : Event) (a b c : Member) (p : IsActs e a b) (q : IsActs e b c) → Sent m b.sent a.me.inc q.acts b.node → Sent m a.sent a.me.inc (p.acts ++ q.acts) a.node
after_sent m e a b c p q (inl h) = elim (p.sent m h) [ inl z ↦ inl z | inr z ↦ inr (elim z [ inl y ↦ inl (sent_left m a.me.inc p.acts q.acts a.node y) | inr y ↦ inr y ]) ]
after_sent m e a b c p q (inr (inl h)) = inr (inl (sent_right m a.me.inc p.acts q.acts a.node (subst (λ n. In m (does_all a.me.inc q.acts n).sent) p.node h)))
after_sent m e a b c p q (inr (inr h)) = inr (inr h)

-- ---- slots

-- what the first acts took is what they took among more acts
took_first : (a : Member) (xs ys : List Act) (d : Did) (l : Life) → TookBy a xs d l → TookBy a (xs ++ ys) d l
took_first a xs ys d l t = record {
  acts = t.acts;
  rest = t.rest ++ ys;
  some = ap (λ z. z ++ ys) t.some ∙ append_assoc t.acts t.rest ys;
  taken = t.taken;
  by = t.by;
  left = t.left;
  ready = t.ready;
  made = t.made;
}

module _ (e : Event) (a b c : Member) (p : IsActs e a b) (q : IsActs e b c) where
  same_inc : b.me.inc ≡ a.me.inc
  same_inc = ap (λ j. j.inc) p.me

  -- the acts that come after the first ones begin with the node that these leave
  node_after : (xs : List Act) → (does_all a.me.inc (p.acts ++ xs) a.node).node ≡ (does_all b.me.inc xs b.node).node
  node_after xs = node_then a.me.inc p.acts xs a.node ∙ (ap (λ n. (does_all a.me.inc xs n).node) (sym p.node) ∙ ap (λ i. (does_all i xs b.node).node) (sym same_inc))

  -- what went on from b goes on from a
  goes_on : (more : Life) → more ++ b.life ≡ (more ++ p.more) ++ a.life
  goes_on more = ap (λ l. more ++ l) p.grown ∙ sym (append_assoc more p.more a.life)

  took_then : (d : Did) (more : Life) → TookBy b q.acts d (more ++ b.life) → TookBy a (p.acts ++ q.acts) d (more ++ b.life)
  took_then d more t = record {
    acts = p.acts ++ t.acts;
    rest = t.rest;
    some = ap (λ z. p.acts ++ z) t.some ∙ sym (append_assoc p.acts t.acts t.rest);
    taken = t.taken;
    by = took_right t.taken a.me.inc p.acts t.acts a.node (subst (λ n. In t.taken (does_all a.me.inc t.acts n).took) p.node (subst (λ i. In t.taken (does_all i t.acts b.node).took) same_inc t.by));
    left = subst (λ s. d ≡ taken_left s (more ++ b.life) t.taken) p.setup t.left;
    ready = t.ready;
    made = λ v h. elim (made_either v a.me.inc p.acts t.acts h) [
      | inl z ↦ let y = p.made v z in (y.0, in_right (Made v y.0) more b.life (subst (λ l. In (Made v y.0) l) (sym p.grown) (in_left (Made v y.0) p.more a.life y.1)))
      | inr z ↦ t.made v (subst (λ i. In v (all_made_by i t.acts)) (sym same_inc) z)
    ];
  }

  rightly_then : (d : Did) (more : Life) → TookRightly b q.acts d (more ++ b.life) → TookRightly a (p.acts ++ q.acts) d (more ++ b.life)
  rightly_then (Took x) more h = took_then (Took x) more h
  rightly_then (Skips t v) more h = took_then (Skips t v) more h
  rightly_then Founds more z = tt
  rightly_then (Starts x) more z = tt
  rightly_then (Came x) more z = tt
  rightly_then (Made v h) more z = tt
  rightly_then (Done p) more z = tt
  rightly_then (Committed g) more z = tt
  rightly_then (Is s c) more z = tt
  rightly_then (Gave p n) more z = tt
  rightly_then (Answered s x) more z = tt
  rightly_then (Begun s x y) more z = tt
  rightly_then (Changed s c) more z = tt
  rightly_then (Replied r) more z = tt
  rightly_then (Called s v w) more z = tt
  rightly_then (AsksCommit s i) more z = tt
  rightly_then (Ends s) more z = tt
  rightly_then (Enters w) more z = tt
  rightly_then (Restores g cs) more z = tt
  rightly_then AskFails more z = tt

  rightly_first : (d : Did) (more : Life) → TookRightly a p.acts d (more ++ a.life) → TookRightly a (p.acts ++ q.acts) d (more ++ a.life)
  rightly_first (Took x) more h = took_first a p.acts q.acts (Took x) (more ++ a.life) h
  rightly_first (Skips t v) more h = took_first a p.acts q.acts (Skips t v) (more ++ a.life) h
  rightly_first Founds more z = tt
  rightly_first (Starts x) more z = tt
  rightly_first (Came x) more z = tt
  rightly_first (Made v h) more z = tt
  rightly_first (Done p) more z = tt
  rightly_first (Committed g) more z = tt
  rightly_first (Is s c) more z = tt
  rightly_first (Gave p n) more z = tt
  rightly_first (Answered s x) more z = tt
  rightly_first (Begun s x y) more z = tt
  rightly_first (Changed s c) more z = tt
  rightly_first (Replied r) more z = tt
  rightly_first (Called s v w) more z = tt
  rightly_first (AsksCommit s i) more z = tt
  rightly_first (Ends s) more z = tt
  rightly_first (Enters w) more z = tt
  rightly_first (Restores g cs) more z = tt
  rightly_first AskFails more z = tt

  allowed_then : (d : Did) (more : Life) → IsAllowed e b.setup b.me.inc d (more ++ b.life) → IsAllowed e a.setup a.me.inc d (more ++ b.life)
  allowed_then d more h = subst (λ i. IsAllowed e a.setup i d (more ++ b.life)) same_inc (subst (λ s. IsAllowed e s b.me.inc d (more ++ b.life)) p.setup h)

  sent_first : (m : Message) → SentBy a p.acts p.more m → SentBy a (p.acts ++ q.acts) (q.more ++ p.more) m
  sent_first m k = record {
    later = q.more ++ k.later;
    earlier = k.earlier;
    split = ap (λ l. q.more ++ l) k.split ∙ sym (append_assoc q.more k.later k.earlier);
    acts = k.acts;
    rest = k.rest ++ q.acts;
    some = ap (λ z. z ++ q.acts) k.some ∙ append_assoc k.acts k.rest q.acts;
    from = k.from;
    sent = k.sent;
  }

  sent_then : (m : Message) → SentBy b q.acts q.more m → SentBy a (p.acts ++ q.acts) (q.more ++ p.more) m
  sent_then m k = record {
    later = k.later;
    earlier = k.earlier ++ p.more;
    split = ap (λ l. l ++ p.more) k.split ∙ append_assoc k.later k.earlier p.more;
    acts = p.acts ++ k.acts;
    rest = k.rest;
    some = ap (λ z. p.acts ++ z) k.some ∙ sym (append_assoc p.acts k.acts k.rest);
    from = k.from ∙ ap (λ n. n.me) (sym (node_after k.acts));
    sent = subst (λ l. IsSent a.setup l m.to m.wire) (goes_on k.earlier) (subst (λ s. IsSent s (k.earlier ++ b.life) m.to m.wire) p.setup k.sent);
  }

  greeted_first : (m : Message) (w : Welcome) → GreetedBy a p.more m w → GreetedBy a (q.more ++ p.more) m w
  greeted_first m w k = record {
    later = q.more ++ k.later;
    earlier = k.earlier;
    add = k.add;
    split = ap (λ l. q.more ++ l) k.split ∙ sym (append_assoc q.more k.later (Took k.add ∷ k.earlier));
    joiner = k.joiner;
    adds = k.adds;
    effect = k.effect;
    to = k.to;
    up = k.up;
    node = k.node;
    turns = k.turns;
    welcome = k.welcome;
  }

  greeted_then : (m : Message) (w : Welcome) → GreetedBy b q.more m w → GreetedBy a (q.more ++ p.more) m w
  greeted_then m w k = record {
    later = k.later;
    earlier = k.earlier ++ p.more;
    add = k.add;
    split = ap (λ l. l ++ p.more) k.split ∙ append_assoc k.later (Took k.add ∷ k.earlier) p.more;
    joiner = k.joiner;
    adds = k.adds;
    effect = k.effect;
    to = k.to;
    up = subst (λ l. is_up (state l) ≡ true) (goes_on k.earlier) k.up;
    node = k.node;
    turns = k.turns;
    welcome = subst (λ l. w ≡ welcome_of k.node k.turns (shown (view a.setup (Took k.add ∷ l)))) (goes_on k.earlier) (subst (λ s. w ≡ welcome_of k.node k.turns (shown (view s (Took k.add ∷ k.earlier ++ b.life)))) p.setup k.welcome);
  }

  joins : IsActs e a c
  joins = record {
    acts = p.acts ++ q.acts;
    node = q.node ∙ sym (node_after q.acts);
    sent = λ m h. after_sent m e a b c p q (subst (λ i. Sent m b.sent i q.acts b.node) same_inc (q.sent m h));
    more = q.more ++ p.more;
    grown = q.grown ∙ goes_on q.more;
    allowed = each_join (IsAllowed e a.setup a.me.inc) q.more p.more a.life (subst (λ l. Each (IsAllowed e a.setup a.me.inc) q.more l) p.grown (each_map (IsAllowed e b.setup b.me.inc) (IsAllowed e a.setup a.me.inc) b.life q.more allowed_then q.allowed)) p.allowed;
    settled = settled_both;
    took = each_join (TookRightly a (p.acts ++ q.acts)) q.more p.more a.life (subst (λ l. Each (TookRightly a (p.acts ++ q.acts)) q.more l) p.grown (each_map (TookRightly b q.acts) (TookRightly a (p.acts ++ q.acts)) b.life q.more rightly_then q.took)) (each_map (TookRightly a p.acts) (TookRightly a (p.acts ++ q.acts)) a.life p.more rightly_first p.took);
    slots = slots_both;
    made = λ v h. elim (made_either v a.me.inc p.acts q.acts h) [
      | inl z ↦ let y = p.made v z in (y.0, in_right (Made v y.0) q.more p.more y.1)
      | inr z ↦ let y = q.made v (subst (λ i. In v (all_made_by i q.acts)) (sym same_inc) z) in (y.0, in_left (Made v y.0) q.more p.more y.1)
    ];
    asked = λ m h k. elim (q.asked m h k) [ inl z ↦ elim (p.asked m z k) [ inl y ↦ inl y | inr y ↦ inr (sent_first m y) ] | inr z ↦ inr (sent_then m z) ];
    greeted = λ m w h k. elim (q.greeted m w h k) [ inl z ↦ elim (p.greeted m w z k) [ inl y ↦ inl y | inr y ↦ inr (greeted_first m w y) ] | inr z ↦ inr (greeted_then m w z) ];
    me = q.me ∙ p.me;
    setup = q.setup ∙ p.setup;
  }
    where
      settled_both : is_settled a.me.inc a.life ≡ true → (is_settled a.me.inc c.life ≡ true) × Each (IsAfterAll a.me.inc) (q.more ++ p.more) a.life
      settled_both h =
          let x = p.settled h in
          let y = subst (λ i. (is_settled i c.life ≡ true) × Each (IsAfterAll i) q.more b.life) same_inc (q.settled (subst (λ i. is_settled i b.life ≡ true) (sym same_inc) x.0)) in
          (y.0, each_join (IsAfterAll a.me.inc) q.more p.more a.life (subst (λ l. Each (IsAfterAll a.me.inc) q.more l) p.grown y.1) x.1)

      later_slots : map (λ x. x.slot) (does_all a.me.inc q.acts (does_all a.me.inc p.acts a.node).node).took ≡ slots_in q.more
      later_slots = ap (λ n. map (λ x. x.slot) (does_all a.me.inc q.acts n).took) (sym p.node) ∙ (ap (λ i. map (λ x. x.slot) (does_all i q.acts b.node).took) (sym same_inc) ∙ q.slots)

      slots_both : map (λ x. x.slot) (does_all a.me.inc (p.acts ++ q.acts) a.node).took ≡ slots_in (q.more ++ p.more)
      slots_both =
          ap (λ l. map (λ x. x.slot) l) (took_then_list a.me.inc p.acts q.acts a.node)
          ∙ (map_then (λ x. x.slot) (does_all a.me.inc p.acts a.node).took (does_all a.me.inc q.acts (does_all a.me.inc p.acts a.node).node).took
          ∙ (ap (λ l. l ++ map (λ x. x.slot) (does_all a.me.inc q.acts (does_all a.me.inc p.acts a.node).node).took) p.slots
          ∙ (ap (λ l. slots_in p.more ++ l) later_slots ∙ sym (slots_then q.more p.more))))

-- ---- one move

-- nothing that is left so is a slot
left_rightly : (e : Event) (a : Member) (d : Did) → IsLeft e a.setup a.me.inc a.life d → TookRightly a [] d a.life
left_rightly e a (Took x) h = absurd h
left_rightly e a (Skips t v) h = absurd h
left_rightly e a Founds z = tt
left_rightly e a (Starts x) z = tt
left_rightly e a (Came x) z = tt
left_rightly e a (Made v h) z = tt
left_rightly e a (Done p) z = tt
left_rightly e a (Committed g) z = tt
left_rightly e a (Is s c) z = tt
left_rightly e a (Gave p n) z = tt
left_rightly e a (Answered s x) z = tt
left_rightly e a (Begun s x y) z = tt
left_rightly e a (Changed s c) z = tt
left_rightly e a (Replied r) z = tt
left_rightly e a (Called s v w) z = tt
left_rightly e a (AsksCommit s i) z = tt
left_rightly e a (Ends s) z = tt
left_rightly e a (Enters w) z = absurd z
left_rightly e a (Restores g cs) z = tt
left_rightly e a AskFails z = tt

left_no_slot : (e : Event) (a : Member) (d : Did) → IsLeft e a.setup a.me.inc a.life d → [] ≡ slots_in (d ∷ [])
left_no_slot e a (Took x) h = absurd h
left_no_slot e a (Skips t v) h = absurd h
left_no_slot e a Founds z = refl
left_no_slot e a (Starts x) z = refl
left_no_slot e a (Came x) z = refl
left_no_slot e a (Made v h) z = refl
left_no_slot e a (Done p) z = refl
left_no_slot e a (Committed g) z = refl
left_no_slot e a (Is s c) z = refl
left_no_slot e a (Gave p n) z = refl
left_no_slot e a (Answered s x) z = refl
left_no_slot e a (Begun s x y) z = refl
left_no_slot e a (Changed s c) z = refl
left_no_slot e a (Replied r) z = refl
left_no_slot e a (Called s v w) z = refl
left_no_slot e a (AsksCommit s i) z = refl
left_no_slot e a (Ends s) z = refl
left_no_slot e a (Enters w) z = absurd z
left_no_slot e a (Restores g cs) z = refl
left_no_slot e a AskFails z = refl

left_allowed : (e : Event) (a : Member) (d : Did) → IsLeft e a.setup a.me.inc a.life d → IsAllowed e a.setup a.me.inc d a.life
left_allowed e a (Took x) h = absurd h
left_allowed e a (Skips t v) h = absurd h
left_allowed e a (Made v x) h = absurd h
left_allowed e a (Is Online c) h = absurd h
left_allowed e a (Is Offline c) h = absurd h
left_allowed e a (Is Recovering c) h = absurd h
left_allowed e a (Is Error c) h = h
left_allowed e a Founds z = z
left_allowed e a (Starts x) z = z
left_allowed e a (Came x) z = z
left_allowed e a (Done p) z = z
left_allowed e a (Committed g) z = z
left_allowed e a (Gave p n) z = z
left_allowed e a (Answered s x) z = z
left_allowed e a (Begun s x y) z = z
left_allowed e a (Changed s c) z = z
left_allowed e a (Replied r) z = z
left_allowed e a (Called s v w) z = z
left_allowed e a (AsksCommit s i) z = z
left_allowed e a (Ends s) z = z
left_allowed e a (Enters w) z = absurd z
left_allowed e a (Restores g cs) z = z
left_allowed e a AskFails z = z

left_settled : (e : Event) (a : Member) (d : Did) → IsLeft e a.setup a.me.inc a.life d → is_settled a.me.inc a.life ≡ true → (is_settled a.me.inc (d ∷ a.life) ≡ true) × Each (IsAfterAll a.me.inc) (d ∷ []) a.life
left_settled e a (Took x) h s = absurd h
left_settled e a (Skips t v) h s = absurd h
left_settled e a (Enters w) h s = absurd h
left_settled e a Founds h s = (refl, (s, tt))
left_settled e a (Starts x) h s = (refl, (s, tt))
left_settled e a (Came x) h s = (refl, (s, tt))
left_settled e a (Made v k) h s = (refl, (s, tt))
left_settled e a (Done p) h s = (refl, (s, tt))
left_settled e a (Committed g) h s = (refl, (s, tt))
left_settled e a (Is u c) h s = (refl, (tt, tt))
left_settled e a (Gave p n) h s = (refl, (s, tt))
left_settled e a (Answered u x) h s = (refl, (s, tt))
left_settled e a (Begun u x y) h s = (refl, (s, tt))
left_settled e a (Changed u c) h s = (refl, (s, tt))
left_settled e a (Replied r) h s = (refl, (s, tt))
left_settled e a (Called u v w) h s = (refl, (s, tt))
left_settled e a (AsksCommit u i) h s = (refl, (s, tt))
left_settled e a (Ends u) h s = (refl, (s, tt))
left_settled e a (Restores g cs) h s = (refl, (s, tt))
left_settled e a AskFails h s = (refl, (s, tt))

made_one : (v w : Value) (holds : Option Body) (i : Inc) → In w (all_made_by i (Owns v ∷ [])) → (b : Option Body) × In (Made w b) (Made v holds ∷ [])
made_one v w holds i h = go (inc_eq v.id.origin i) h
  where
    go : (c : Bool) → In w ((if c then v ∷ [] else []) ++ []) → (b : Option Body) × In (Made w b) (Made v holds ∷ [])
    go true (inl e) = (holds, inl (ap (λ u. Made u holds) e))
    go true (inr z) = absurd z
    go false z = absurd z

none_made : (x : Act) (v : Value) (i : Inc) (l : Life) → is_inner x ≡ true → In v (all_made_by i (x ∷ [])) → (b : Option Body) × In (Made v b) l
none_made (Owns w) v i l e h = absurd (false≢true e)
none_made Campaigns v i l e h = absurd h
none_made Ticks v i l e h = absurd h
none_made Proposes v i l e h = absurd h
none_made (Takes s) v i l e h = absurd (false≢true e)

not_taking : (x : Act) → is_inner x ≡ true → is_taking x ≡ false
not_taking (Owns w) e = refl
not_taking Campaigns e = refl
not_taking Ticks e = refl
not_taking Proposes e = refl
not_taking (Takes s) e = absurd (false≢true e)

joins_by : (x : Wire) → is_ask_or_give x ≡ true → is_joining x ≡ true
joins_by (Ask x) e = refl
joins_by (Give x) e = refl
joins_by (Greet x) e = absurd (false≢true e)
joins_by (Prepare b s) e = absurd (false≢true e)
joins_by (Promise b s xs) e = absurd (false≢true e)
joins_by (Accept b t v) e = absurd (false≢true e)
joins_by (Accepted b t) e = absurd (false≢true e)
joins_by (Learn t v) e = absurd (false≢true e)
joins_by (Offer v) e = absurd (false≢true e)
joins_by (Alive k) e = absurd (false≢true e)
joins_by Gone e = absurd (false≢true e)

-- ---- a message that is sent beside the node

sent_beside : (to : Inc) (x : Wire) (a : Member) → IsSent a.setup a.life to x → (m : Message) → In m (a.sent ++ message a.node to x ∷ []) → In m a.sent ⊎ SentBy a [] [] m
sent_beside to x a h m k = elim (in_either m a.sent (message a.node to x ∷ []) k) [
  | inl z ↦ inl z
  | inr z ↦ elim z [
    | inl e ↦ inr (record { later = []; earlier = []; split = refl; acts = []; rest = []; some = refl; from = ap (λ y. y.from) (sym e); sent = subst (λ y. IsSent a.setup a.life y.to y.wire) e h })
    | inr y ↦ absurd y
  ]
]

no_welcome_beside : (to : Inc) (x : Wire) (a : Member) → is_apart x ≡ true → (m : Message) (w : Welcome) → In m (a.sent ++ message a.node to x ∷ []) → m.wire ≡ Greet w → In m a.sent ⊎ GreetedBy a [] m w
no_welcome_beside to x a h m w k q = elim (in_either m a.sent (message a.node to x ∷ []) k) [
  | inl z ↦ inl z
  | inr z ↦ elim z [
    | inl e ↦ absurd (false≢true (subst (λ y. is_apart y ≡ true) (ap (λ y. y.wire) e ∙ q) h))
    | inr y ↦ absurd y
  ]
]

-- ---- a Welcome

-- what a node sends that takes a slot with a Welcome
record Greeting (m : Message) (v : Shown) (n : Node) (x : Taken) : Type 0 where
  joiner : Joiner
  turns : Turns
  effect : takes_effect x.kept ≡ true
  adds : x.value.what ≡ Add joiner
  is_it : m ≡ message n joiner.inc (Greet (welcome_of n turns v))

greeting : (m : Message) (v : Shown) (n : Node) (x : Taken) → In m (greets (Some v) n x) → Greeting m v n x
greeting m v n x h = go (takes_effect x.kept) refl h
  where
    by_what : takes_effect x.kept ≡ true → (o : Option Turns) (w : What) → x.value.what ≡ w → In m (greet_by n o w v) → Greeting m v n x
    by_what e None w q k = absurd k
    by_what e (Some u) (Add j) q (inl k) = record { joiner = j; turns = u; effect = e; adds = q; is_it = sym k }
    by_what e (Some u) (Add j) q (inr k) = absurd k
    by_what e (Some u) Noop q k = absurd k
    by_what e (Some u) (Remove i) q k = absurd k
    by_what e (Some u) (Says b) q k = absurd k

    go : (b : Bool) → takes_effect x.kept ≡ b → In m (if b then greet_by n n.turns x.value.what v else []) → Greeting m v n x
    go true e k = by_what e n.turns x.value.what refl k
    go false e k = absurd k

module _ (only_takes : OnlyTakingTakes) (only_greets : OnlyTakingGreets) (silent : TakingIsSilent) where
  none_taken : (x : Act) (a : Member) → is_taking x ≡ false → map (λ y. y.slot) (does_all a.me.inc (x ∷ []) a.node).took ≡ []
  none_taken x a h = ap (λ l. map (λ y. y.slot) (l ++ [])) (only_takes a.me.inc x a.node h)

  none_asked : (x : Act) (a : Member) (more : Life) → is_taking x ≡ false → (m : Message) → In m (a.sent ++ (does a.me.inc x a.node).sent) → is_ask_or_give m.wire ≡ true → In m a.sent ⊎ SentBy a (x ∷ []) more m
  none_asked x a more h m k q = elim (in_either m a.sent (does a.me.inc x a.node).sent k) [
    | inl z ↦ inl z
    | inr z ↦ absurd (false≢true (sym (only_greets a.me.inc x a.node m h z) ∙ joins_by m.wire q))
  ]

  none_greeted : (x : Act) (a : Member) (more : Life) → is_taking x ≡ false → (m : Message) (w : Welcome) → In m (a.sent ++ (does a.me.inc x a.node).sent) → m.wire ≡ Greet w → In m a.sent ⊎ GreetedBy a more m w
  none_greeted x a more h m w k q = elim (in_either m a.sent (does a.me.inc x a.node).sent k) [
    | inl z ↦ inl z
    | inr z ↦ absurd (false≢true (sym (only_greets a.me.inc x a.node m h z) ∙ ap is_joining q))
  ]

  -- ---- a slot

  one_taken : (a : Member) (x : Taken) (g : Option Shown) → IsRead a x g → (d : Did) → d ≡ taken_left a.setup a.life x → TookBy a (Takes g ∷ []) d a.life
  one_taken a x g r d q = record {
    acts = Takes g ∷ [];
    rest = [];
    some = refl;
    taken = x;
    by = in_left x (take a.node).took [] (subst (λ l. In x l) (sym r.took) (inl refl));
    left = q;
    ready = r.ready;
    made = λ v h. absurd h;
  }

  -- what is sent with it is a Welcome
  sent_taking : (g : Option Shown) (x : Taken) (a : Member) → IsRead a x g → (m : Message) → In m (a.sent ++ (does a.me.inc (Takes g) a.node).sent) → In m a.sent ⊎ ((v : Shown) × (g ≡ Some v) × Greeting m v (take a.node).node x)
  sent_taking g x a r m h = elim (in_either m a.sent ((take a.node).sent ++ flat_map (greets g (take a.node).node) (take a.node).took) h) [
    | inl z ↦ inl z
    | inr z ↦ inr (by g refl (subst (λ l. In m (flat_map (greets g (take a.node).node) l)) r.took (subst (λ l. In m (l ++ flat_map (greets g (take a.node).node) (take a.node).took)) (silent a.node) z)))
  ]
    where
      one : (g' : Option Shown) → In m (greets g' (take a.node).node x ++ []) → In m (greets g' (take a.node).node x)
      one g' k = subst (λ l. In m l) (append-nil (greets g' (take a.node).node x)) k

      by : (g' : Option Shown) → g ≡ g' → In m (greets g' (take a.node).node x ++ []) → (v : Shown) × (g ≡ Some v) × Greeting m v (take a.node).node x
      by None q k = absurd k
      by (Some v) q k = (v, q, greeting m v (take a.node).node x (one (Some v) k))

  no_ask_taking : (g : Option Shown) (x : Taken) (a : Member) (more : Life) → IsRead a x g → (m : Message) → In m (a.sent ++ (does a.me.inc (Takes g) a.node).sent) → is_ask_or_give m.wire ≡ true → In m a.sent ⊎ SentBy a (Takes g ∷ []) more m
  no_ask_taking g x a more r m h k = elim (sent_taking g x a r m h) [
    | inl z ↦ inl z
    | inr z ↦ absurd (false≢true (subst (λ y. is_ask_or_give y.wire ≡ true) z.2.is_it k))
  ]

  -- with the entry that is left where it is an Add
  greets_taking : (g : Option Shown) (x : Taken) (a : Member) (y : Entry) (later : Life) (p : ℕ) (b : Bool) → IsRead a x g → x.kept ≡ KeptAt p b → y ≡ entry_of a.setup a.life x.slot p b x.value →
      (m : Message) (w : Welcome) → In m (a.sent ++ (does a.me.inc (Takes g) a.node).sent) → m.wire ≡ Greet w → In m a.sent ⊎ GreetedBy a (later ++ Took y ∷ []) m w
  greets_taking g x a y later p b r kept is_y m w h k = elim (sent_taking g x a r m h) [ inl z ↦ inl z | inr z ↦ inr (by z.0 z.1 z.2) ]
    where
      left : taken_left a.setup a.life x ≡ Took y
      left = ap (λ c. slot_left a.setup a.life x.slot x.value c) kept ∙ ap (λ z. Took z) (sym is_y)

      by : (v : Shown) → g ≡ Some v → Greeting m v (take a.node).node x → GreetedBy a (later ++ Took y ∷ []) m w
      by v q z = record {
        later = later;
        earlier = [];
        add = y;
        split = refl;
        joiner = z.joiner;
        adds = ap (λ u. u.value.what) is_y ∙ z.adds;
        effect = plain;
        to = ap (λ u. u.to) z.is_it;
        up = subst (λ d. is_up (state (d ∷ a.life)) ≡ true) left is_shown.0;
        node = (take a.node).node;
        turns = z.turns;
        welcome = told;
      }
        where
          is_shown : (is_up (state (taken_left a.setup a.life x ∷ a.life)) ≡ true) × (v ≡ shown (view a.setup (taken_left a.setup a.life x ∷ a.life)))
          is_shown = subst (λ o. IsShown a x o) q r.shown

          in_effect : b ≡ true
          in_effect = ap takes_effect (sym kept) ∙ z.effect

          plain : y.effect ≡ Plain
          plain = ap (λ u. u.effect) is_y ∙ (ap (λ c. effect_of a.setup a.life c x.value (open_parts a.life x.value.id.origin) (held (open_parts a.life x.value.id.origin) x.value.what)) in_effect ∙ by_adds)
            where
              by_adds : effect_of a.setup a.life true x.value (open_parts a.life x.value.id.origin) (held (open_parts a.life x.value.id.origin) x.value.what) ≡ Plain
              by_adds = subst (λ u. effect_of a.setup a.life true (record { id = x.value.id; what = u }) (open_parts a.life x.value.id.origin) (held (open_parts a.life x.value.id.origin) u) ≡ Plain) (sym z.adds) refl

          of_greet : Wire → Welcome
          of_greet (Greet u) = u
          of_greet u = w

          told : w ≡ welcome_of (take a.node).node z.turns (shown (view a.setup (Took y ∷ a.life)))
          told = ap of_greet (sym k) ∙ (ap (λ u. of_greet u.wire) z.is_it ∙ ap (λ u. welcome_of (take a.node).node z.turns u) (is_shown.1 ∙ ap (λ d. shown (view a.setup (d ∷ a.life))) left))

  skips_taking : (g : Option Shown) (x : Taken) (a : Member) (more : Life) → IsRead a x g → x.kept ≡ IsSkipped → (m : Message) (w : Welcome) → In m (a.sent ++ (does a.me.inc (Takes g) a.node).sent) → m.wire ≡ Greet w → In m a.sent ⊎ GreetedBy a more m w
  skips_taking g x a more r kept m w h k = elim (sent_taking g x a r m h) [ inl z ↦ inl z | inr z ↦ absurd (false≢true (ap takes_effect (sym kept) ∙ z.2.effect)) ]

  slot_of_one : (g : Option Shown) (x : Taken) (a : Member) → IsRead a x g → map (λ y. y.slot) (does_all a.me.inc (Takes g ∷ []) a.node).took ≡ x.slot ∷ []
  slot_of_one g x a r = ap (λ l. map (λ y. y.slot) (l ++ [])) r.took

  reads_acts : (e : Event) (g : Option Shown) (x : Taken) (a : Member) → IsRead a x g → IsActs e a (reads g x a)
  reads_acts e g x a r = go x.kept refl
    where
      made_so : (more : Life) → Each (IsAllowed e a.setup a.me.inc) more a.life → (is_settled a.me.inc a.life ≡ true → (is_settled a.me.inc (more ++ a.life) ≡ true) × Each (IsAfterAll a.me.inc) more a.life) → Each (TookRightly a (Takes g ∷ [])) more a.life → x.slot ∷ [] ≡ slots_in more →
          ((m : Message) (w : Welcome) → In m (a.sent ++ (does a.me.inc (Takes g) a.node).sent) → m.wire ≡ Greet w → In m a.sent ⊎ GreetedBy a more m w) → IsActs e a (record (reads g x a) { life = more ++ a.life })
      made_so more w u t z q = record { acts = Takes g ∷ []; node = refl; sent = λ m h. one_sent m (Takes g) a h; more = more; grown = refl; allowed = w; settled = u; took = t; slots = slot_of_one g x a r ∙ z; made = λ v h. absurd h; asked = λ m h k. no_ask_taking g x a more r m h k; greeted = q; me = refl; setup = refl }

      comes : (p : ℕ) (b : Bool) → x.kept ≡ KeptAt p b → (c d : Bool) → (let y : Entry = entry_of a.setup a.life x.slot p b x.value in is_arrival_of a.me.inc y ≡ c → is_exit_of a.me.inc y ≡ d → IsActs e a (record (reads g x a) { life = own_state c d y a.life }))
      comes p b q true d h u =
          let y : Entry = entry_of a.setup a.life x.slot p b x.value in
          made_so (Is Online OwnOnline ∷ Took y ∷ []) ((y, a.life, refl, h), (r.ready, tt)) (λ s. (refl, (tt, (s, tt)))) (tt, (one_taken a x g r (Took y) (ap (λ k. slot_left a.setup a.life x.slot x.value k) (sym q)), tt)) refl (greets_taking g x a y (Is Online OwnOnline ∷ []) p b r q refl)
      comes p b q false true h u =
          let y : Entry = entry_of a.setup a.life x.slot p b x.value in
          made_so (Is Error Removed ∷ Took y ∷ []) (tt, (r.ready, tt)) (λ s. (refl, (tt, (s, tt)))) (tt, (one_taken a x g r (Took y) (ap (λ k. slot_left a.setup a.life x.slot x.value k) (sym q)), tt)) refl (greets_taking g x a y (Is Error Removed ∷ []) p b r q refl)
      comes p b q false false h u =
          let y : Entry = entry_of a.setup a.life x.slot p b x.value in
          made_so (Took y ∷ []) (r.ready, tt) (λ s. ((λ k. not (h k || u k)), (s, tt))) (one_taken a x g r (Took y) (ap (λ k. slot_left a.setup a.life x.slot x.value k) (sym q)), tt) refl (greets_taking g x a y [] p b r q refl)

      go : (k : Kept) → x.kept ≡ k → IsActs e a (record (reads g x a) { life = with_state a.me.inc (slot_left a.setup a.life x.slot x.value k) a.life })
      go IsSkipped q = made_so (Skips x.slot x.value ∷ []) (r.ready, tt) (λ s. (refl, (s, tt))) (one_taken a x g r (Skips x.slot x.value) (ap (λ k. slot_left a.setup a.life x.slot x.value k) (sym q)), tt) refl (skips_taking g x a (Skips x.slot x.value ∷ []) r q)
      go (KeptAt p b) q = comes p b q (is_arrival_of a.me.inc (entry_of a.setup a.life x.slot p b x.value)) (is_exit_of a.me.inc (entry_of a.setup a.life x.slot p b x.value)) refl refl

  pub is_acts : {e : Event} {a b : Member} → Moves e a b → IsActs e a b
  is_acts (Stays a) = record { acts = []; node = refl; sent = λ m h. inl h; more = []; grown = refl; allowed = tt; settled = λ h. (h, tt); took = tt; slots = refl; made = λ v h. absurd h; asked = λ m h k. inl h; greeted = λ m w h k. inl h; me = refl; setup = refl }
  is_acts {e = e} (Leaves d a w) = record { acts = []; node = refl; sent = λ m h. inl h; more = d ∷ []; grown = refl; allowed = (left_allowed e a d w, tt); settled = left_settled e a d w; took = (left_rightly e a d w, tt); slots = left_no_slot e a d w; made = λ v h. absurd h; asked = λ m h k. inl h; greeted = λ m w h k. inl h; me = refl; setup = refl }
  is_acts (Sends i x a w z) = record { acts = []; node = refl; sent = λ m h. apart_sent m i x a w h; more = []; grown = refl; allowed = tt; settled = λ h. (h, tt); took = tt; slots = refl; made = λ v h. absurd h; asked = λ m h k. sent_beside i x a z m h; greeted = λ m u h k. no_welcome_beside i x a w m u h k; me = refl; setup = refl }
  is_acts (Acts x a w) = record { acts = x ∷ []; node = refl; sent = λ m h. one_sent m x a h; more = []; grown = refl; allowed = tt; settled = λ h. (h, tt); took = tt; slots = none_taken x a (not_taking x w); made = λ v h. none_made x v a.me.inc [] w h; asked = none_asked x a [] (not_taking x w); greeted = none_greeted x a [] (not_taking x w); me = refl; setup = refl }
  is_acts (Makes v holds a w) = record { acts = Owns v ∷ []; node = refl; sent = λ m h. one_sent m (Owns v) a h; more = Made v holds ∷ []; grown = refl; allowed = (w, tt); settled = λ h. (refl, (h, tt)); took = (tt, tt); slots = none_taken (Owns v) a refl; made = λ u h. made_one v u holds a.me.inc h; asked = none_asked (Owns v) a (Made v holds ∷ []) refl; greeted = none_greeted (Owns v) a (Made v holds ∷ []) refl; me = refl; setup = refl }
  is_acts (Welcomes w a h) = record { acts = []; node = refl; sent = λ m k. inl k; more = Is Recovering Welcomed ∷ Enters w ∷ []; grown = refl; allowed = ((w, a.life, refl), (h, tt)); settled = λ s. (refl, (tt, (s, tt))); took = (tt, (tt, tt)); slots = refl; made = λ v k. absurd k; asked = λ m k z. inl k; greeted = λ m u k z. inl k; me = refl; setup = refl }
  is_acts {e = e} (Reads g x a w) = reads_acts e g x a w
  is_acts {e = e} (Then {a = a} {b = b} {c = c} p q) = joins e a b c (is_acts p) (is_acts q)

  pub step_is_acts : (e : Event) (a : Member) → StepIsActs e a
  step_is_acts e a = let x = steps e a in record { begin = x.begin; begins = x.begins; is_acts = is_acts x.moves }
