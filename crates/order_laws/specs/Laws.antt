-- The laws of the order, as statements on a world.
use Rattle.std.specs.Prelude.{ℕ, Bool, zero, suc, true, false, ◌+◌, ◌-◌, ◌≡◌, ◌<◌, ◌≤◌, ◌⊎◌, length, Some, None, List, [], ◌∷◌, ◌++◌, map, filter, slice_get}
use Rattle.gr_ids.specs.Names.{inc_eq, has_inc}
use Rattle.slot_values.specs.Log.{Group, Turns, config, config_of, after, became, is_kept, has_effect}
use Rattle.node_rules.specs.Lists.{In}
use Rattle.node_rules.specs.Chosen.{Cast, IsChosen, IsChosenLog}
use Rattle.node_rules.specs.Node.{Node}
use Rattle.node_rules.specs.Step.{node_step}
use Rattle.node_rules.specs.Taking.{take}
use Rattle.node_rules.specs.World.{World, Event, Took, Act, Takes, Arranges, does, run}
use Rattle.order_laws.specs.Names.{Inc, Value, Noop, Add, Joiner, Message, Wire, Greet, Ask, Give, Welcome, WelcomeMember, Heard}

-- It holds after every list of events, in whatever order the messages of a step go on the wire.
abbrev pub InEveryRun : (Group → World → Type 0) → Type 0
InEveryRun Holds = (arrange : List Message → List Message) → Arranges arrange → (g : Group) (es : List Event) → 0 < g.horizon → Holds g (run arrange g es)

-- In each slot at most one value is chosen: whichever logs of chosen values give the slot's configuration.
abbrev pub AtMostOneChosen : Group → World → Type 0
AtMostOneChosen g w = (xs ys : List Value) → IsChosenLog g w.cast xs → IsChosenLog g w.cast ys
    → (t : ℕ) (u v : Value) → t ≤ length xs + g.horizon → t ≤ length ys + g.horizon → IsChosen g w.cast xs t u → IsChosen g w.cast ys t v → u ≡ v

-- Two logs of chosen values do not differ in a slot.
abbrev pub OneLog : Group → World → Type 0
OneLog g w = (xs ys : List Value) → IsChosenLog g w.cast xs → IsChosenLog g w.cast ys → (k : ℕ) (u v : Value) → slice_get xs k ≡ Some u → slice_get ys k ≡ Some v → u ≡ v

-- No two incarnations differ in the value of a slot that they took.
abbrev pub TakenAlike : Group → World → Type 0
TakenAlike g w = (x y : Took) → In x w.took → In y w.took → x.taken.slot ≡ y.taken.slot → x.taken.value ≡ y.taken.value

-- Each incarnation that may take slots has read a log of chosen values to its last slot: places, members with their last kept numbers, and configurations are those of the log.
-- (The last kept numbers of members that were removed before a joiner's Add are not told to it. The configurations of the slots to `base` are forgotten.)
abbrev pub Follows : Group → World → Type 0
Follows g w = (i : Inc) (n : Node) (t : Turns) → w.at i ≡ Some n → n.turns ≡ Some t
    → (log : List Value) × IsChosenLog g w.cast log × (t.slot ≡ length log)
    × (t.reading.place ≡ (after g log).place) × (t.reading.members ≡ (after g log).members) × (t.reading.ever ≡ (after g log).ever)
    × ((s : ℕ) → t.base < s → s ≤ t.slot + g.horizon → config_of t s ≡ Some (config g log s))

-- What each value taken became, kept at a place with effect or not, or skipped, is what it becomes after the log of chosen values before it; with it that is one too.
abbrev pub KeptAsInLog : Group → World → Type 0
KeptAsInLog g w = (x : Took) → In x w.took → (log : List Value) × IsChosenLog g w.cast log × (x.taken.slot ≡ length log + 1) × IsChosen g w.cast log x.taken.slot x.taken.value × (x.taken.kept ≡ became (after g log) x.taken.value) × IsChosenLog g w.cast (log ++ x.taken.value ∷ [])

-- ---- consecutive slots

-- the slots that an incarnation took, in order
abbrev pub slots_by : Inc → List Took → List ℕ
slots_by i xs = map (λ x. x.taken.slot) (filter (λ x. inc_eq x.by i) xs)

-- these many numbers from s on
abbrev pub count_up : ℕ → ℕ → List ℕ
count_up s zero = []
count_up s (suc k) = s ∷ count_up (s + 1) k

-- The slot holds an Add of this incarnation that takes effect there.
abbrev pub AddedIn : Group → List Cast → Inc → ℕ → Type 0
AddedIn g cs i s = (before : List Value) × (v : Value) × (j : Joiner) × IsChosenLog g cs (before ++ v ∷ []) × (s ≡ length before + 1)
    × (v.what ≡ Add j) × (j.inc ≡ i) × (is_kept (after g before) v ≡ true) × (has_effect (after g before) v.what ≡ true)

-- Each incarnation takes the slots after some slot, up to its last one: a founder after 0, a joiner after that of its Add. One that had no Welcome takes none.
abbrev pub Consecutive : Group → World → Type 0
Consecutive g w = (i : Inc) (n : Node) → w.at i ≡ Some n
    → (n.turns ≡ None → slots_by i w.took ≡ [])
    × ((t : Turns) → n.turns ≡ Some t → (s : ℕ) × (s ≤ t.slot) × (slots_by i w.took ≡ count_up (s + 1) (t.slot - s))
    × (has_inc g.founders i ≡ true → s ≡ 0) × (has_inc g.founders i ≡ false → AddedIn g w.cast i s))

-- ---- nodes and Welcomes

-- Each node is that of its incarnation.
abbrev pub Named : Group → World → Type 0
Named g w = (i : Inc) (n : Node) → w.at i ≡ Some n → n.me ≡ i

-- What a Welcome tells of the log is that of a log of chosen values, whose last slot holds the Add of the one that it is sent to.
abbrev pub WelcomesFollow : Group → World → Type 0
WelcomesFollow g w = (m : Message) (x : Welcome) → In m w.wire → m.wire ≡ Greet x
    → (log : List Value) × IsChosenLog g w.cast log × (x.slot ≡ length log) × (x.place ≡ (after g log).place) × (map {A = WelcomeMember} (λ y. record { inc = y.joiner.inc; last = y.last }) x.members ≡ (after g log).members) × AddedIn g w.cast m.to x.slot

abbrev pub is_taking : Act → Bool
is_taking (Takes s) = true
is_taking x = false

-- No act but the taking of a slot hands one out.
abbrev pub OnlyTakingTakes : Type 0
OnlyTakingTakes = (i : Inc) (x : Act) (n : Node) → is_taking x ≡ false → (does i x n).took ≡ []

-- Nor does a message that is heard.
abbrev pub HearingTakesNone : Type 0
HearingTakesNone = (m : Message) (n : Node) → (node_step (Heard m) n).took ≡ []

-- the messages by which one joins: a Welcome, an Ask, a Give
abbrev pub is_joining : Wire → Bool
is_joining (Greet x) = true
is_joining (Ask x) = true
is_joining (Give x) = true
is_joining x = false

-- No act of a node sends an Ask or a Give, and none but the taking of a slot a Welcome.
abbrev pub OnlyTakingGreets : Type 0
OnlyTakingGreets = (i : Inc) (x : Act) (n : Node) (m : Message) → is_taking x ≡ false → In m (does i x n).sent → is_joining m.wire ≡ false

-- Nor does one that hears a message.
abbrev pub HearingGreetsNobody : Type 0
HearingGreetsNobody = (h : Message) (n : Node) (m : Message) → In m (node_step (Heard h) n).sent → is_joining m.wire ≡ false

-- The taking alone sends nothing but the Welcome that it is asked to send.
abbrev pub TakingIsSilent : Type 0
TakingIsSilent = (n : Node) → (take n).sent ≡ []

-- ---- made before

-- Each value that is taken is a Noop, or was made by its origin.
abbrev pub MadeBefore : Group → World → Type 0
MadeBefore g w = (x : Took) → In x w.took → (x.taken.value.what ≡ Noop) ⊎ In x.taken.value w.made
