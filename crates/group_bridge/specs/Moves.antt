-- How a member comes to be another one: by acts of its node, by things left in its history, and by messages that aren't its node's.
use Rattle.std.specs.Prelude.{◌≡◌, ◌⊎◌, ℕ, Bool, true, false, Option, Some, None, List, [], ◌∷◌, ◌++◌, ◌==◌, map}
use Rattle.gr_ids.specs.declared.names.Inc.{Inc}
use Rattle.gr_ids.specs.declared.levels.MemberState.TheVariants.{Recovering, Online}
use Rattle.slot_values.specs.declared.value.Joiner.{Joiner}
use Rattle.slot_values.specs.declared.value.What.TheVariants.{Add}
use Rattle.slot_values.specs.Log.{Turns}
use Rattle.group_rules.specs.declared.marks.Effect.TheVariants.{Plain}
use Rattle.group_rules.specs.declared.marks.Cause.TheVariants.{Welcomed}
use Rattle.paxos_forms.specs.declared.welcome.Welcome.{Welcome}
use Rattle.node_rules.specs.Node.{Node}
use Rattle.slot_values.specs.declared.value.Value.{Value}
use Rattle.paxos_forms.specs.declared.message.Message.{Message}
use Rattle.paxos_forms.specs.declared.message.Wire.{Wire}
use Rattle.paxos_forms.specs.declared.message.Wire.TheVariants.{Offer, Ask, Give, Welcome as Greet}
use Rattle.txn_forms.specs.declared.body.Body.{Body}
use Rattle.node_rules.specs.declared.event.PaxosEvent.TheVariants.{Heard}
use Rattle.node_rules.specs.Lists.{In}
use Rattle.node_rules.specs.declared.taken.Taken.{Taken}
use Rattle.node_rules.specs.Taking.{take}
use Rattle.node_rules.specs.Welcoming.{Shown, welcome_of}
use Rattle.node_rules.specs.World.{Act, Owns, Campaigns, Ticks, Proposes, Takes, does, does_all, all_made_by}
use Rattle.group_rules.specs.Events.{Did, Made, Took, Skips, Is, Enters, Life, Setup, Entry, Event, Hears}
use Rattle.group_rules.specs.Life.{state, is_up, view}
use Rattle.group_rules.specs.View.{shown}
use Rattle.group_rules.specs.Member.{Member, push, send, by_node, at_node}
use Rattle.group_rules.specs.Taking.{takes_slots}
use Rattle.group_rules.specs.Steps.{step}
use Rattle.group_bridge.specs.Left.{IsLeft, IsMade, IsEntered, is_settled, IsAfterAll, IsSent, is_arrival_of, taken_left, with_state}

-- messages that aren't the node's: an Ask, a Give, and the Add of a joiner
abbrev pub is_apart : Wire → Bool
is_apart (Ask x) = true
is_apart (Give x) = true
is_apart (Offer v) = v.id.number == 0
is_apart x = false

-- one act of its node
abbrev pub acts : Act → Member → Member
acts x a = by_node (does a.me.inc x) a

-- an act that makes nothing and takes nothing
abbrev pub is_inner : Act → Bool
is_inner Campaigns = true
is_inner Ticks = true
is_inner Proposes = true
is_inner x = false

-- what a Welcome shows, if one is sent: the view with the Add, at a member that is ONLINE
abbrev pub IsShown : Member → Taken → Option Shown → Type 0
IsShown a x None = Unit {0}
IsShown a x (Some v) = let l : Life = taken_left a.setup a.life x ∷ a.life in (is_up (state l) ≡ true) × (v ≡ shown (view a.setup l))

-- the node handed out this slot, to a member that takes slots
pub record IsRead (a : Member) (x : Taken) (greets : Option Shown) : Type 0 where
  pub took : (take a.node).took ≡ x ∷ []
  pub ready : takes_slots a.life ≡ true
  pub shown : IsShown a x greets

-- the member whose node has taken the slot, with what it leaves
abbrev pub reads : Option Shown → Taken → Member → Member
reads g x a = record (acts (Takes g) a) { life = with_state a.me.inc (taken_left a.setup a.life x) a.life }

-- One thing after another, in a step for the event e.
pub data Moves (e : Event) : Member → Member → Type 0 where
  Stays : (a : Member) → Moves e a a
  Leaves : (d : Did) (a : Member) → IsLeft e a.setup a.me.inc a.life d → Moves e a (push d a)
  Sends : (to : Inc) (x : Wire) (a : Member) → is_apart x ≡ true → IsSent a.setup a.life to x → Moves e a (send to x a)
  Acts : (x : Act) (a : Member) → is_inner x ≡ true → Moves e a (acts x a)
  Makes : (v : Value) (holds : Option Body) (a : Member) → IsMade a.setup a.me.inc a.life v holds → Moves e a (acts (Owns v) (push (Made v holds) a))
  Welcomes : (w : Welcome) (a : Member) → IsEntered a.me.inc a.life w → Moves e a (push (Is Recovering Welcomed) (push (Enters w) a))
  Reads : (g : Option Shown) (x : Taken) (a : Member) → IsRead a x g → Moves e a (reads g x a)
  Then : {a b c : Member} → Moves e a b → Moves e b c → Moves e a c

-- the messages of the step before are gone
abbrev pub cleared : Member → Member
cleared a = record a { sent = [] }

-- the member that has heard a message, if one came that is its node's
abbrev pub Begins : Event → Member → Member → Type 0
Begins e a b = (b ≡ cleared a) ⊎ ((m : Message) × (e ≡ Hears m) × (is_apart m.wire ≡ false) × (b ≡ at_node (Heard m) (cleared a)))

pub record Steps (e : Event) (a c : Member) : Type 0 where
  pub begin : Member
  pub begins : Begins e a begin
  pub moves : Moves e begin c

-- ---- what follows of the node

-- P holds of each of these, with what was left before it
abbrev pub Each : (Did → Life → Type 0) → Life → Life → Type 0
Each P [] base = Unit {0}
Each P (d ∷ more) base = P d (more ++ base) × Each P more base

-- A slot that was left by `l` was handed out after some of the acts, and what these had made is in `l`.
pub record TookBy (a : Member) (all : List Act) (d : Did) (l : Life) : Type 0 where
  pub acts : List Act
  pub rest : List Act
  pub some : all ≡ acts ++ rest
  pub taken : Taken
  pub by : In taken (does_all a.me.inc acts a.node).took
  pub left : d ≡ taken_left a.setup l taken
  pub ready : takes_slots l ≡ true
  pub made : (v : Value) → In v (all_made_by a.me.inc acts) → (holds : Option Body) × In (Made v holds) l

abbrev pub TookRightly : Member → List Act → Did → Life → Type 0
TookRightly a all (Took e) l = TookBy a all (Took e) l
TookRightly a all (Skips t v) l = TookBy a all (Skips t v) l
TookRightly a all d l = Unit {0}

-- what each thing asks of the history before it
abbrev pub IsAllowed : Event → Setup → Inc → Did → Life → Type 0
IsAllowed e s i (Made v holds) l = IsMade s i l v holds
IsAllowed e s i (Took x) l = takes_slots l ≡ true
IsAllowed e s i (Skips t v) l = takes_slots l ≡ true
IsAllowed e s i (Enters w) l = IsEntered i l w
IsAllowed e s i (Is Recovering c) l = (w : Welcome) × (past : Life) × (l ≡ Enters w ∷ past)
IsAllowed e s i (Is Online c) l = (x : Entry) × (past : Life) × (l ≡ Took x ∷ past) × (is_arrival_of i x ≡ true)
IsAllowed e s i d l = IsLeft e s i l d

-- An Ask or a Give was sent after some of this was left, and after some of the acts.
pub record SentBy (a : Member) (all : List Act) (more : Life) (m : Message) : Type 0 where
  pub later : Life
  pub earlier : Life
  pub split : more ≡ later ++ earlier
  pub acts : List Act
  pub rest : List Act
  pub some : all ≡ acts ++ rest
  pub from : m.from ≡ (does_all a.me.inc acts a.node).node.me
  pub sent : IsSent a.setup (earlier ++ a.life) m.to m.wire

-- A Welcome was sent to a joiner where its Add was taken with effect, by a member that is ONLINE. It shows the view after it.
pub record GreetedBy (a : Member) (more : Life) (m : Message) (w : Welcome) : Type 0 where
  pub later : Life
  pub earlier : Life
  pub add : Entry
  pub split : more ≡ later ++ Took add ∷ earlier
  pub joiner : Joiner
  pub adds : add.value.what ≡ Add joiner
  pub effect : add.effect ≡ Plain
  pub to : m.to ≡ joiner.inc
  pub up : is_up (state (earlier ++ a.life)) ≡ true
  pub node : Node
  pub turns : Turns
  pub welcome : w ≡ welcome_of node turns (shown (view a.setup (Took add ∷ earlier ++ a.life)))

abbrev pub is_ask_or_give : Wire → Bool
is_ask_or_give (Ask x) = true
is_ask_or_give (Give x) = true
is_ask_or_give x = false

-- the slots that were left, the first one first
abbrev pub slots_in : Life → List ℕ
slots_in [] = []
slots_in (Took e ∷ l) = slots_in l ++ e.slot ∷ []
slots_in (Skips t v ∷ l) = slots_in l ++ t ∷ []
slots_in (d ∷ l) = slots_in l

-- What a list of acts makes of a member: its node is theirs, and each message is there before, theirs, or one that isn't the node's. Its history grows by
-- what the history before it allows; each slot in it is taken by the acts, in order, and each value that they make is made in it.
pub record IsActs (e : Event) (a b : Member) : Type 0 where
  pub acts : List Act
  pub node : b.node ≡ (does_all a.me.inc acts a.node).node
  pub sent : (m : Message) → In m b.sent → In m a.sent ⊎ (In m (does_all a.me.inc acts a.node).sent ⊎ (is_apart m.wire ≡ true))
  pub more : Life
  pub grown : b.life ≡ more ++ a.life
  pub allowed : Each (IsAllowed e a.setup a.me.inc) more a.life
  pub settled : is_settled a.me.inc a.life ≡ true → (is_settled a.me.inc b.life ≡ true) × Each (IsAfterAll a.me.inc) more a.life
  pub took : Each (TookRightly a acts) more a.life
  pub slots : map (λ x. x.slot) (does_all a.me.inc acts a.node).took ≡ slots_in more
  pub made : (v : Value) → In v (all_made_by a.me.inc acts) → (holds : Option Body) × In (Made v holds) more
  pub asked : (m : Message) → In m b.sent → is_ask_or_give m.wire ≡ true → In m a.sent ⊎ SentBy a acts more m
  pub greeted : (m : Message) (w : Welcome) → In m b.sent → m.wire ≡ Greet w → In m a.sent ⊎ GreetedBy a more m w
  pub me : b.me ≡ a.me
  pub setup : b.setup ≡ a.setup

pub record StepIsActs (e : Event) (a : Member) : Type 0 where
  pub begin : Member
  pub begins : Begins e a begin
  pub is_acts : IsActs e begin (step e a)
