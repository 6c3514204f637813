-- Taking a slot is an act of the node, with the Welcome that it causes; and so is a whole step.
use Rattle.std.proofs.Common.{append_assoc, ◌≡◌, inl, inr, ℕ, zero, suc, Bool, true, false, Option, Some, None, List, [], ◌∷◌, ◌++◌, refl, sym, ap, subst, ◌∙◌}
use Rattle.std.proofs.lemmas.Bool.{false≢true, and_parts}
use Rattle.std.specs.Prelude.{◌^◌, ◌==◌, ◌&&◌, not, flat_map, if◌then◌else◌}
use Rattle.gr_ids.specs.Names.{inc_eq}
use Rattle.gr_ids.specs.declared.names.Inc.{Inc}
use Rattle.gr_ids.specs.declared.levels.MemberState.TheVariants.{Online}
use Rattle.gtid_sets.specs.Sets.{Gtids}
use Rattle.slot_values.specs.declared.value.Joiner.{Joiner}
use Rattle.slot_values.specs.declared.value.Value.{Value}
use Rattle.slot_values.specs.declared.value.What.{What}
use Rattle.slot_values.specs.declared.value.What.TheVariants.{Noop, Add, Remove, Body as Says}
use Rattle.slot_values.specs.Log.{Turns}
use Rattle.slot_values.specs.declared.kept.Kept.{Kept}
use Rattle.slot_values.specs.declared.kept.Kept.TheVariants.{At as KeptAt, Skipped as IsSkipped}
use Rattle.node_rules.specs.declared.taken.Taken.{Taken}
use Rattle.txn_forms.specs.declared.body.Body.{Body}
use Rattle.txn_forms.specs.declared.body.Body.TheVariants.{Txn as HasTxn, Prepared, Sync, Executed, Online as Arrives, Mode as Switches, Primary as Appoints, Part as PartOf}
use Rattle.paxos_forms.specs.declared.message.Message.{Message}
use Rattle.paxos_forms.specs.declared.message.Wire.{Wire}
use Rattle.paxos_forms.specs.declared.message.Wire.TheVariants.{Prepare, Promise, Accept, Accepted, Learn, Offer, Welcome as Greet, Ask as Asks, Give as Gives, Alive, Gone}
use Rattle.group_rules.specs.declared.marks.Effect.{Effect}
use Rattle.group_rules.specs.declared.marks.Effect.TheVariants.{Plain, Void, Unread, Positive, Conflict}
use Rattle.group_rules.specs.declared.marks.Cause.TheVariants.{OwnOnline, Removed, Gone as WasGone}
use Rattle.group_rules.specs.declared.marks.Reply.TheVariants.{NotQueued}
use Rattle.node_rules.specs.declared.event.PaxosEvent.TheVariants.{Heard}
use Rattle.node_rules.specs.Slots.{Entry as SlotEntry}
use Rattle.node_rules.specs.Learner.{next_entry}
use Rattle.node_rules.specs.Node.{Node, message, takes_effect}
use Rattle.node_rules.specs.Taking.{take, take_next}
use Rattle.node_rules.specs.Welcoming.{Shown, welcome_of}
use Rattle.node_rules.specs.World.{greets, greet_by as node_greets}
use Rattle.group_rules.specs.View.{shown, void_if, effect_in}
use Rattle.group_rules.specs.Events.{Did, Took, Skips, Is, Came, Replied, Entry, Event, Hears, Ticks, Works, Calls, Operates}
use Rattle.group_rules.specs.Life.{state, is_up, is_error, is_arrival, view}
use Rattle.group_rules.specs.Member.{Member, push, by_node, at_node, fall}
use Rattle.group_rules.specs.Parts.{open_parts, held}
use Rattle.group_rules.specs.Recovery.{check_ask}
use Rattle.group_rules.specs.Welcomes.{greet_by}
use Rattle.group_rules.specs.Points.{point}
use Rattle.group_rules.specs.Taking.{entry_of, effect_of, on_plain, causes, take_kept, take_slot, next_slot, takes_slots, take_slots, propose, rounds, settle_slots}
use Rattle.group_rules.specs.Steps.{hear_add, hear_offer, hear_wire, hear_in_error, act_alive, act_in_error, act, held_mark, step}
use Rattle.group_bridge.specs.Left.{slot_left, taken_left, is_arrival_of, is_exit, is_exit_of, own_state, with_state}
use Rattle.group_bridge.specs.Moves.{is_apart, IsShown, Moves, Stays, Leaves, Reads, Then, cleared, Steps}
use Rattle.group_bridge.proofs.Moved.{moves_fall, moves_fallen, moves_on_conflict, moves_point, moves_propose, moves_hear_add, moves_hear_welcome, moves_check_ask, moves_ask, moves_give, moves_tick_once, moves_work, moves_call, moves_operate, moves_held}

-- ---- lists

abbrev IsNil : {A : Type 0} → List A → Type 0
IsNil [] = Unit {0}
IsNil (y ∷ ys) = ⊥

no_cons : {A : Type 0} (x : A) (xs : List A) → [] ≡ x ∷ xs → ⊥
no_cons x xs e = subst (λ l. IsNil l) e tt

abbrev tail_of : {A : Type 0} → List A → List A
tail_of [] = []
tail_of (x ∷ xs) = xs

append_nil : {A : Type 0} (xs : List A) → xs ++ [] ≡ xs
append_nil [] = refl
append_nil (x ∷ xs) = ap (λ l. x ∷ l) (append_nil xs)

-- ---- what taking takes

-- a node hands out one slot at most
took_one : (n : Node) (x : Taken) (xs : List Taken) → (take n).took ≡ x ∷ xs → xs ≡ []
unfolding take
took_one n x xs e = go n.turns (next_entry n.learner) e
  where
    go : (o : Option Turns) (q : Option SlotEntry) → (take_next n o q).took ++ [] ≡ x ∷ xs → xs ≡ []
    go None q h = absurd (no_cons x xs h)
    go (Some w) None h = absurd (no_cons x xs h)
    go (Some w) (Some y) h = sym (ap tail_of h)

no_greets : (m : Node) (xs : List Taken) → flat_map (greets None m) xs ≡ []
no_greets m [] = refl
no_greets m (x ∷ xs) = no_greets m xs

-- ---- what a slot leaves

-- a member takes the next slot, and its node does
reads_plainly : (e : Event) (a : Member) (x : Taken) → (take a.node).took ≡ x ∷ [] → takes_slots a.life ≡ true → Moves e a (record (by_node take a) { life = with_state a.me.inc (taken_left a.setup a.life x) a.life })
reads_plainly e a x t y = subst (λ s. Moves e a (record a { node = (take a.node).node; sent = a.sent ++ s; life = with_state a.me.inc (taken_left a.setup a.life x) a.life })) (ap (λ l. (take a.node).sent ++ l) (no_greets (take a.node).node (take a.node).took) ∙ append_nil (take a.node).sent) (Reads None x a (record { took = t; ready = y; shown = tt }))

-- where it isn't its own Online entry
reads_one : (e : Event) (a : Member) (x : Taken) (d : Did) → (take a.node).took ≡ x ∷ [] → takes_slots a.life ≡ true → taken_left a.setup a.life x ≡ d → with_state a.me.inc d a.life ≡ d ∷ a.life → Moves e a (push d (by_node take a))
reads_one e a x d t y q r = subst (λ l. Moves e a (record (by_node take a) { life = l })) (ap (λ c. with_state a.me.inc c a.life) q ∙ r) (reads_plainly e a x t y)

-- ---- with a Welcome

-- what an incarnation that takes this slot with a Welcome sends
greets_one : (v : Shown) (u : Turns) (m : Node) (x : Taken) (j : Joiner) → takes_effect x.kept ≡ true → x.value.what ≡ Add j → m.turns ≡ Some u → greets (Some v) m x ≡ message m j.inc (Greet (welcome_of m u v)) ∷ []
greets_one v u m x j t d e = go (takes_effect x.kept) t
  where
    go : (b : Bool) → b ≡ true → (if b then node_greets m m.turns x.value.what v else []) ≡ message m j.inc (Greet (welcome_of m u v)) ∷ []
    go true h = rw e (rw d refl)
    go false h = absurd (false≢true h)

-- the member after its node took the slot, and after what it left, with the Welcome sent
sends_greeting : (e : Event) (a : Member) (x : Taken) (v : Shown) (g : Message) (d : Did) → taken_left a.setup a.life x ≡ d → with_state a.me.inc d a.life ≡ d ∷ a.life → (take a.node).took ≡ x ∷ [] → takes_slots a.life ≡ true → IsShown a x (Some v) → greets (Some v) (take a.node).node x ≡ g ∷ [] →
    Moves e a (push d (record a { node = (take a.node).node; sent = (a.sent ++ (take a.node).sent) ++ g ∷ [] }))
sends_greeting e a x v g d q r t y w h = subst (λ l. Moves e a (record a { node = (take a.node).node; sent = (a.sent ++ (take a.node).sent) ++ g ∷ []; life = l })) (ap (λ c. with_state a.me.inc c a.life) q ∙ r) sent_first
  where
    one : flat_map (greets (Some v) (take a.node).node) (take a.node).took ≡ g ∷ []
    one = ap (λ l. flat_map (greets (Some v) (take a.node).node) l) t ∙ (append_nil (greets (Some v) (take a.node).node x) ∙ h)

    eq : a.sent ++ ((take a.node).sent ++ flat_map (greets (Some v) (take a.node).node) (take a.node).took) ≡ (a.sent ++ (take a.node).sent) ++ g ∷ []
    eq = ap (λ l. a.sent ++ ((take a.node).sent ++ l)) one ∙ sym (append_assoc a.sent (take a.node).sent (g ∷ []))

    sent_first : Moves e a (record a { node = (take a.node).node; sent = (a.sent ++ (take a.node).sent) ++ g ∷ []; life = with_state a.me.inc (taken_left a.setup a.life x) a.life })
    sent_first = subst (λ s. Moves e a (record a { node = (take a.node).node; sent = s; life = with_state a.me.inc (taken_left a.setup a.life x) a.life })) eq (Reads (Some v) x a (record { took = t; ready = y; shown = w }))

-- ---- an entry taken

abbrev IsPlain : Effect → Type 0
IsPlain Plain = Unit {0}
IsPlain x = ⊥

void_plain : (b : Bool) → void_if (not b) ≡ Plain → b ≡ true
void_plain true e = refl
void_plain false e = absurd (subst (λ x. IsPlain x) (sym e) tt)

-- an Add that takes effect
add_plain : (a : Member) (t p : ℕ) (b : Bool) (v : Value) (j : Joiner) → v.what ≡ Add j → (entry_of a.setup a.life t p b v).effect ≡ Plain → b ≡ true
add_plain a t p b v j y h = void_plain b (subst (λ u. effect_of a.setup a.life b u (open_parts a.life v.id.origin) (held (open_parts a.life v.id.origin) u.what) ≡ Plain) as_add h)
  where
    as_add : v ≡ record { id = v.id; what = Add j }
    as_add = λ i. record { id = v.id; what = y i }

no_body : (set : Gtids) → None ≡ Some (Arrives set) → ⊥
no_body set e = absurd (cc e)

and_true : (b : Bool) → (b && true) ≡ b
and_true true = refl
and_true false = refl

no_arrival : (b : Bool) → (b && false) ≡ false
no_arrival true = refl
no_arrival false = refl

-- what has another effect than Plain is no exit
exit_plain : (i : Inc) (w : What) (f : Effect) → (f ≡ Plain → ⊥) → is_exit i w f ≡ false
exit_plain i Noop f n = refl
exit_plain i (Add j) f n = refl
exit_plain i (Says z) f n = refl
exit_plain i (Remove j) Plain n = absurd (n refl)
exit_plain i (Remove j) Void n = refl
exit_plain i (Remove j) Unread n = refl
exit_plain i (Remove j) (Positive g) n = refl
exit_plain i (Remove j) (Conflict g) n = refl

-- one entry taken by a member that takes slots
module _ (e : Event) (a : Member) (x : Taken) (p : ℕ) (b : Bool) (t : (take a.node).took ≡ x ∷ []) (y : takes_slots a.life ≡ true) (k : x.kept ≡ KeptAt p b) where
  abbrev entry : Entry
  entry = entry_of a.setup a.life x.slot p b x.value

  abbrev with_entry : Member
  with_entry = push (Took entry) (by_node take a)

  left : taken_left a.setup a.life x ≡ Took entry
  left = ap (λ r. slot_left a.setup a.life x.slot x.value r) k

  -- the own state that comes with it
  state_if : (c d : Bool) → is_arrival_of a.me.inc entry ≡ c → is_exit_of a.me.inc entry ≡ d → with_state a.me.inc (Took entry) a.life ≡ own_state c d entry a.life
  state_if c d h g = λ k. own_state (h k) (g k) entry a.life

  comes_with : (c d : Bool) → is_arrival_of a.me.inc entry ≡ c → is_exit_of a.me.inc entry ≡ d → Moves e a (record (by_node take a) { life = own_state c d entry a.life })
  comes_with c d h g = subst (λ l. Moves e a (record (by_node take a) { life = l })) (ap (λ z. with_state a.me.inc z a.life) left ∙ state_if c d h g) (reads_plainly e a x t y)

  -- ---- an own Online entry, or another's

  arrived : is_exit_of a.me.inc entry ≡ false → (c : Bool) → is_arrival_of a.me.inc entry ≡ c → Moves e a (elim c [ true ↦ push (Is Online OwnOnline) with_entry | false ↦ with_entry ])
  arrived g true h = comes_with true false h g
  arrived g false h = comes_with false false h g

  moves_arrival : (set : Gtids) (z : List ℕ) → entry.holds ≡ Some (Arrives set) → x.value.what ≡ Says z → Moves e a (causes entry entry.effect with_entry)
  moves_arrival set z h w = subst (λ m. Moves e a m) (sym same) (arrived (ap (λ u. is_exit a.me.inc u entry.effect) w) (inc_eq x.value.id.origin a.me.inc) is_it)
    where
      plain : entry.effect ≡ Plain
      plain = subst (λ o. effect_of a.setup a.life b x.value (open_parts a.life x.value.id.origin) o ≡ Plain) (sym h) (subst (λ u. effect_in (view a.setup a.life) b u (Some (Arrives set)) ≡ Plain) (sym w) refl)

      same : causes entry entry.effect with_entry ≡ elim (inc_eq x.value.id.origin a.me.inc) [ true ↦ push (Is Online OwnOnline) with_entry | false ↦ with_entry ]
      same = ap (λ f. causes entry f with_entry) plain ∙ (ap (λ u. on_plain x.value.id.origin u entry.holds with_entry) w ∙ ap (λ o. on_plain x.value.id.origin (Says z) o with_entry) h)

      is_it : is_arrival_of a.me.inc entry ≡ inc_eq x.value.id.origin a.me.inc
      is_it = ap (λ o. inc_eq x.value.id.origin a.me.inc && is_arrival o) h ∙ and_true (inc_eq x.value.id.origin a.me.inc)

  -- ---- any other entry

  module _ (other : is_arrival entry.holds ≡ false) where
    no_arrival_here : is_arrival_of a.me.inc entry ≡ false
    no_arrival_here = ap (λ c. inc_eq x.value.id.origin a.me.inc && c) other ∙ no_arrival (inc_eq x.value.id.origin a.me.inc)

    stays : is_exit_of a.me.inc entry ≡ false → with_state a.me.inc (Took entry) a.life ≡ Took entry ∷ a.life
    stays g = state_if false false no_arrival_here g

    taken : is_exit_of a.me.inc entry ≡ false → Moves e a with_entry
    taken g = comes_with false false no_arrival_here g

    -- the own Remove
    falls : (z : Bool) → is_exit_of a.me.inc entry ≡ z → Moves e a (elim z [ true ↦ fall Removed with_entry | false ↦ with_entry ])
    falls true g = Then (comes_with false true no_arrival_here g) (moves_fallen e Removed with_entry)
    falls false g = taken g

    in_effect : b ≡ true → takes_effect x.kept ≡ true
    in_effect z = ap takes_effect k ∙ z

    -- a member that is ONLINE sends a joiner a Welcome
    moves_greeting : (j : Joiner) → takes_effect x.kept ≡ true → is_exit_of a.me.inc entry ≡ false → x.value.what ≡ Add j → (c : Bool) → (is_up (state with_entry.life) && not (inc_eq j.inc with_entry.me.inc)) ≡ c →
        Moves e a (elim c [ true ↦ greet_by j.inc (take a.node).node.turns with_entry | false ↦ with_entry ])
    moves_greeting j w n z false h = taken n
    moves_greeting j w n z true h = go (take a.node).node.turns refl
      where
        v : Shown
        v = shown (view a.setup with_entry.life)

        is_shown : IsShown a x (Some v)
        is_shown = subst (λ d. (is_up (state (d ∷ a.life)) ≡ true) × (v ≡ shown (view a.setup (d ∷ a.life)))) (sym left) ((and_parts (is_up (state with_entry.life)) _ h).0, refl)

        go : (o : Option Turns) → (take a.node).node.turns ≡ o → Moves e a (greet_by j.inc o with_entry)
        go None f = taken n
        go (Some u) f = sends_greeting e a x v (message (take a.node).node j.inc (Greet (welcome_of (take a.node).node u v))) (Took entry) left (stays n) t y is_shown (greets_one v u (take a.node).node x j w z f)

    on_noop : (h : Option Body) → is_arrival h ≡ false → Moves e with_entry (on_plain x.value.id.origin Noop h with_entry)
    on_noop None q = Stays with_entry
    on_noop (Some (Arrives s)) q = absurd (false≢true (sym q))
    on_noop (Some (HasTxn s)) q = Stays with_entry
    on_noop (Some (Prepared g)) q = Stays with_entry
    on_noop (Some Sync) q = Stays with_entry
    on_noop (Some (Executed s)) q = Stays with_entry
    on_noop (Some (Switches s)) q = Stays with_entry
    on_noop (Some (Appoints i)) q = Stays with_entry
    on_noop (Some (PartOf s)) q = Stays with_entry

    on_body : (z : List ℕ) (h : Option Body) → is_arrival h ≡ false → Moves e with_entry (on_plain x.value.id.origin (Says z) h with_entry)
    on_body z None q = Stays with_entry
    on_body z (Some (Arrives s)) q = absurd (false≢true (sym q))
    on_body z (Some (HasTxn s)) q = Stays with_entry
    on_body z (Some (Prepared g)) q = Stays with_entry
    on_body z (Some Sync) q = Stays with_entry
    on_body z (Some (Executed s)) q = Stays with_entry
    on_body z (Some (Switches s)) q = Stays with_entry
    on_body z (Some (Appoints i)) q = Stays with_entry
    on_body z (Some (PartOf s)) q = Stays with_entry

    moves_plain : entry.effect ≡ Plain → Moves e a (on_plain x.value.id.origin x.value.what entry.holds with_entry)
    moves_plain f = go x.value.what refl
      where
        no_exit : (w : What) → x.value.what ≡ w → is_exit a.me.inc w entry.effect ≡ false → is_exit_of a.me.inc entry ≡ false
        no_exit w q n = ap (λ u. is_exit a.me.inc u entry.effect) q ∙ n

        go : (w : What) → x.value.what ≡ w → Moves e a (on_plain x.value.id.origin w entry.holds with_entry)
        go (Add j) q = moves_greeting j (in_effect (add_plain a x.slot p b x.value j q f)) (no_exit (Add j) q refl) q (is_up (state with_entry.life) && not (inc_eq j.inc with_entry.me.inc)) refl
        go (Remove i) q = falls (inc_eq i a.me.inc) (ap (λ u. is_exit a.me.inc u entry.effect) q ∙ ap (is_exit a.me.inc (Remove i)) f)
        go Noop q = Then (taken (no_exit Noop q refl)) (on_noop entry.holds other)
        go (Says z) q = Then (taken (no_exit (Says z) q refl)) (on_body z entry.holds other)

    moves_other : Moves e a (causes entry entry.effect with_entry)
    moves_other = go entry.effect refl
      where
        none : (f : Effect) → entry.effect ≡ f → (f ≡ Plain → ⊥) → is_exit_of a.me.inc entry ≡ false
        none f h n = ap (is_exit a.me.inc x.value.what) h ∙ exit_plain a.me.inc x.value.what f n

        go : (f : Effect) → entry.effect ≡ f → Moves e a (causes entry f with_entry)
        go Plain h = moves_plain h
        go Void h = taken (none Void h (λ q. absurd (cc q)))
        go Unread h = taken (none Unread h (λ q. absurd (cc q)))
        go (Positive g) h = taken (none (Positive g) h (λ q. absurd (cc q)))
        go (Conflict g) h = Then (taken (none (Conflict g) h (λ q. absurd (cc q)))) (moves_on_conflict e entry g with_entry h (a.life, inl refl))

  moves_kept : Moves e a (take_kept x.slot x.value (KeptAt p b) (by_node take a))
  moves_kept = go entry.holds refl
    where
      arrives : (set : Gtids) → entry.holds ≡ Some (Arrives set) → (w : What) → x.value.what ≡ w → Moves e a (causes entry entry.effect with_entry)
      arrives set h (Says z) q = moves_arrival set z h q
      arrives set h Noop q = absurd (no_body set (ap (λ w. held (open_parts a.life x.value.id.origin) w) (sym q) ∙ h))
      arrives set h (Add j) q = absurd (no_body set (ap (λ w. held (open_parts a.life x.value.id.origin) w) (sym q) ∙ h))
      arrives set h (Remove i) q = absurd (no_body set (ap (λ w. held (open_parts a.life x.value.id.origin) w) (sym q) ∙ h))

      go : (o : Option Body) → entry.holds ≡ o → Moves e a (causes entry entry.effect with_entry)
      go (Some (Arrives set)) h = arrives set h x.value.what refl
      go None h = moves_other (ap is_arrival h)
      go (Some (HasTxn s)) h = moves_other (ap is_arrival h)
      go (Some (Prepared g)) h = moves_other (ap is_arrival h)
      go (Some Sync) h = moves_other (ap is_arrival h)
      go (Some (Executed s)) h = moves_other (ap is_arrival h)
      go (Some (Switches s)) h = moves_other (ap is_arrival h)
      go (Some (Appoints i)) h = moves_other (ap is_arrival h)
      go (Some (PartOf s)) h = moves_other (ap is_arrival h)

moves_slot : (e : Event) (a : Member) (x : Taken) (xs : List Taken) → (take a.node).took ≡ x ∷ xs → takes_slots a.life ≡ true → Moves e a (take_slot x (by_node take a))
moves_slot e a x xs t y = go x.kept refl
  where
    alone : (take a.node).took ≡ x ∷ []
    alone = t ∙ ap (λ l. x ∷ l) (took_one a.node x xs t)

    go : (r : Kept) → x.kept ≡ r → Moves e a (take_kept x.slot x.value r (by_node take a))
    go IsSkipped q = reads_one e a x (Skips x.slot x.value) alone y (ap (λ r. slot_left a.setup a.life x.slot x.value r) q) refl
    go (KeptAt p b) q = moves_kept e a x p b alone y q

-- ---- all slots

next_took : (a : Member) (x : Taken) (xs : List Taken) → next_slot a ≡ x ∷ xs → ((take a.node).took ≡ x ∷ xs) × (takes_slots a.life ≡ true)
next_took a x xs e = go (takes_slots a.life) refl e
  where
    go : (b : Bool) → takes_slots a.life ≡ b → elim b [ true ↦ (take a.node).took | false ↦ [] ] ≡ x ∷ xs → ((take a.node).took ≡ x ∷ xs) × (takes_slots a.life ≡ true)
    go true y h = (h, y)
    go false y h = absurd (no_cons x xs h)

moves_take_slots : (e : Event) (k : ℕ) (a : Member) → Moves e a (take_slots k a)
moves_take_slots e zero a = Stays a
moves_take_slots e (suc k) a = go (next_slot a) refl (λ x. moves_take_slots e k (point (take_slot x (by_node take a))))
  where
    go : (xs : List Taken) → next_slot a ≡ xs → ((x : Taken) → Moves e (point (take_slot x (by_node take a))) (take_slots k (point (take_slot x (by_node take a))))) → Moves e a (elim xs [ [] ↦ a | x ∷ xs ↦ take_slots k (point (take_slot x (by_node take a))) ])
    go [] q h = Stays a
    go (x ∷ xs) q h = let z = next_took a x xs q in Then (moves_slot e a x xs z.0 z.1) (Then (moves_point e (take_slot x (by_node take a))) (h x))

moves_rounds : (e : Event) (k : ℕ) (a : Member) → Moves e a (rounds k a)
moves_rounds e zero a = Stays a
moves_rounds e (suc k) a = go (next_slot a) (moves_rounds e k (propose (take_slots (2 ^ 42) a)))
  where
    go : (xs : List Taken) → Moves e (propose (take_slots (2 ^ 42) a)) (rounds k (propose (take_slots (2 ^ 42) a))) → Moves e a (elim xs [ [] ↦ a | x ∷ xs ↦ rounds k (propose (take_slots (2 ^ 42) a)) ])
    go [] h = Stays a
    go (x ∷ xs) h = Then (moves_take_slots e (2 ^ 42) a) (Then (moves_propose e (take_slots (2 ^ 42) a)) h)

moves_settle : (e : Event) (a : Member) → Moves e a (settle_slots a)
unfolding settle_slots
moves_settle e a = Then (moves_take_slots e (2 ^ 42) a) (Then (moves_propose e (take_slots (2 ^ 42) a)) (moves_rounds e (2 ^ 42) (propose (take_slots (2 ^ 42) a))))

-- ---- a whole step

-- what follows the action
moves_rest : (e : Event) (b : Member) → Moves e b (held_mark e (settle_slots (point b)))
moves_rest e b = Then (moves_point e b) (Then (moves_settle e (point b)) (moves_held e e (settle_slots (point b))))

quietly : (e : Event) (a c : Member) → Moves e (cleared a) c → Steps e a c
quietly e a c p = record { begin = cleared a; begins = inl refl; moves = p }

hearing : (m : Message) (a c : Member) → is_apart m.wire ≡ false → Moves (Hears m) (at_node (Heard m) (cleared a)) c → Steps (Hears m) a c
hearing m a c h p = record { begin = at_node (Heard m) (cleared a); begins = inr (m, refl, h, refl); moves = p }

came : (e : Event) (a : Member) → Moves e (cleared a) (push (Came e) (cleared a))
came e a = Leaves (Came e) (cleared a) refl

-- the node hears the message, and then the member moves
heard_steps : (m : Message) (a c : Member) → is_apart m.wire ≡ false → Moves (Hears m) (push (Came (Hears m)) (at_node (Heard m) (cleared a))) c → Steps (Hears m) a c
heard_steps m a c h p = hearing m a c h (Then (Leaves (Came (Hears m)) (at_node (Heard m) (cleared a)) refl) p)

offer_steps : (m : Message) (v : Value) (a : Member) → m.wire ≡ Offer v → Steps (Hears m) a (hear_offer m v (push (Came (Hears m)) (cleared a)))
offer_steps m v a e = go (v.id.number == 0) refl
  where
    go : (b : Bool) → (v.id.number == 0) ≡ b → Steps (Hears m) a (elim b [ true ↦ hear_add v.what (push (Came (Hears m)) (cleared a)) | false ↦ at_node (Heard m) (push (Came (Hears m)) (cleared a)) ])
    go true h = quietly (Hears m) a _ (Then (came (Hears m) a) (moves_hear_add (Hears m) v.what (push (Came (Hears m)) (cleared a))))
    go false h = heard_steps m a _ (ap is_apart e ∙ h) (Stays (at_node (Heard m) (push (Came (Hears m)) (cleared a))))

other_steps : (m : Message) (a : Member) → is_apart m.wire ≡ false → Steps (Hears m) a (check_ask (at_node (Heard m) (push (Came (Hears m)) (cleared a))))
other_steps m a h = heard_steps m a _ h (moves_check_ask (Hears m) (at_node (Heard m) (push (Came (Hears m)) (cleared a))))

hear_steps : (m : Message) (x : Wire) (a : Member) → m.wire ≡ x → Steps (Hears m) a (hear_wire m x (push (Came (Hears m)) (cleared a)))
hear_steps m (Asks x) a e = quietly (Hears m) a _ (Then (came (Hears m) a) (moves_ask (Hears m) m x.place x.executed (push (Came (Hears m)) (cleared a)) (a.life, refl) e))
hear_steps m (Gives g) a e = quietly (Hears m) a _ (Then (came (Hears m) a) (moves_give (Hears m) m g (push (Came (Hears m)) (cleared a)) (a.life, refl) e))
hear_steps m Gone a e = heard_steps m a _ (ap is_apart e) (moves_fall (Hears m) WasGone (at_node (Heard m) (push (Came (Hears m)) (cleared a))))
hear_steps m (Greet w) a e = heard_steps m a _ (ap is_apart e) (moves_hear_welcome (Hears m) m w (at_node (Heard m) (push (Came (Hears m)) (cleared a))) (a.life, refl) e)
hear_steps m (Offer v) a e = offer_steps m v a e
hear_steps m (Prepare b s) a e = other_steps m a (ap is_apart e)
hear_steps m (Promise b s xs) a e = other_steps m a (ap is_apart e)
hear_steps m (Accept b t v) a e = other_steps m a (ap is_apart e)
hear_steps m (Accepted b t) a e = other_steps m a (ap is_apart e)
hear_steps m (Learn t v) a e = other_steps m a (ap is_apart e)
hear_steps m (Alive n) a e = other_steps m a (ap is_apart e)

act_alive_steps : (e : Event) (a : Member) → Steps e a (act_alive e (push (Came e) (cleared a)))
act_alive_steps (Hears m) a = hear_steps m m.wire a refl
act_alive_steps Ticks a = quietly Ticks a _ (Then (came Ticks a) (moves_tick_once Ticks (push (Came Ticks) (cleared a))))
act_alive_steps (Works p b) a = quietly (Works p b) a _ (Then (came (Works p b) a) (moves_work (Works p b) p b (push (Came (Works p b)) (cleared a))))
act_alive_steps (Calls s r) a = quietly (Calls s r) a _ (Then (came (Calls s r) a) (moves_call (Calls s r) s r (push (Came (Calls s r)) (cleared a)) (a.life, refl)))
act_alive_steps (Operates o) a = quietly (Operates o) a _ (Then (came (Operates o) a) (moves_operate (Operates o) o (push (Came (Operates o)) (cleared a))))

heard_in_error : (m : Message) (a : Member) → is_apart m.wire ≡ false → Steps (Hears m) a (at_node (Heard m) (push (Came (Hears m)) (cleared a)))
heard_in_error m a h = heard_steps m a _ h (Stays (at_node (Heard m) (push (Came (Hears m)) (cleared a))))

hear_in_error_steps : (m : Message) (x : Wire) (a : Member) → m.wire ≡ x → Steps (Hears m) a (hear_in_error m x (cleared a))
hear_in_error_steps m (Prepare b s) a e = heard_in_error m a (ap is_apart e)
hear_in_error_steps m (Accept b t v) a e = heard_in_error m a (ap is_apart e)
hear_in_error_steps m Gone a e = quietly (Hears m) a _ (Stays (cleared a))
hear_in_error_steps m (Greet w) a e = quietly (Hears m) a _ (Stays (cleared a))
hear_in_error_steps m (Offer v) a e = quietly (Hears m) a _ (Stays (cleared a))
hear_in_error_steps m (Asks x) a e = quietly (Hears m) a _ (Stays (cleared a))
hear_in_error_steps m (Gives g) a e = quietly (Hears m) a _ (Stays (cleared a))
hear_in_error_steps m (Promise b s xs) a e = quietly (Hears m) a _ (Stays (cleared a))
hear_in_error_steps m (Accepted b t) a e = quietly (Hears m) a _ (Stays (cleared a))
hear_in_error_steps m (Learn t v) a e = quietly (Hears m) a _ (Stays (cleared a))
hear_in_error_steps m (Alive n) a e = quietly (Hears m) a _ (Stays (cleared a))

act_in_error_steps : (e : Event) (a : Member) → Steps e a (act_in_error e (cleared a))
act_in_error_steps (Hears m) a = hear_in_error_steps m m.wire a refl
act_in_error_steps Ticks a = quietly Ticks a _ (Stays (cleared a))
act_in_error_steps (Works p b) a = quietly (Works p b) a _ (Leaves (Replied (NotQueued p)) (cleared a) tt)
act_in_error_steps (Calls s r) a = quietly (Calls s r) a _ (Then (came (Calls s r) a) (moves_call (Calls s r) s r (push (Came (Calls s r)) (cleared a)) (a.life, refl)))
act_in_error_steps (Operates o) a = quietly (Operates o) a _ (Then (came (Operates o) a) (moves_operate (Operates o) o (push (Came (Operates o)) (cleared a))))

act_steps : (e : Event) (a : Member) → Steps e a (act e (cleared a))
act_steps e a = go (is_error (state a.life))
  where
    go : (b : Bool) → Steps e a (elim b [ true ↦ act_in_error e (cleared a) | false ↦ act_alive e (push (Came e) (cleared a)) ])
    go true = act_in_error_steps e a
    go false = act_alive_steps e a

pub steps : (e : Event) (a : Member) → Steps e a (step e a)
unfolding step
steps e a = let x = act_steps e a in record { begin = x.begin; begins = x.begins; moves = Then x.moves (moves_rest e (act e (cleared a))) }
