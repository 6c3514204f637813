-- Worked runs, computed: the definitions do what the worked rows say.
use Rattle.std.proofs.Common.{◌≡◌, ℕ, Option, Some, None, List, [], ◌∷◌, ◌++◌, refl}
use Rattle.std.specs.Prelude.{map, flat_map, ◌==◌, if◌then◌else◌}
use Rattle.slot_values.specs.Log.{Group, read, turn}
use Rattle.node_rules.specs.Names.{Inc, Value, What, Add, Remove, Body, Joiner, Message, Wire, Prepare, Promise, Accept, Accepted, Learn, Offer, Greet, Ask, Give, Alive, Gone, Online, Recovering, Multi}
use Rattle.node_rules.specs.Known.{config_by}
use Rattle.node_rules.specs.Node.{Node}
use Rattle.node_rules.specs.Voting.{hear_prepare, hear_accept}
use Rattle.node_rules.specs.Learning.{hear_learn, hear_accepted, hear_alive}
use Rattle.node_rules.specs.Proposing.{hear_promise, propose_one, own_value, hear_offer, campaign}
use Rattle.node_rules.specs.Welcoming.{Shown, hear_welcome}
use Rattle.node_rules.specs.Ticks.{tick}
use Rattle.node_rules.specs.Taking.{take, forget}
use Rattle.node_rules.specs.Step.{hear, node_step}
use Rattle.node_rules.specs.World.{World, Event, Campaigns, Ticks, Owns, Takes, Hears, Does, Starts, run}

abbrev inc : ℕ → ℕ → Inc
inc s n = record { server = s; start = n }

abbrev three : Group
three = record { founders = inc 1 1 ∷ inc 2 1 ∷ inc 3 1 ∷ []; horizon = 10 }

abbrev value : Inc → ℕ → What → Value
value i n w = record { id = record { origin = i; number = n }; what = w }

abbrev kind : Wire → ℕ
kind (Prepare b s) = 1
kind (Promise b s xs) = 2
kind (Accept b t v) = 3
kind (Accepted b t) = 4
kind (Learn t v) = 5
kind (Offer v) = 6
kind (Greet x) = 7
kind (Ask x) = 8
kind (Give x) = 9
kind (Alive n) = 10
kind Gone = 11

abbrev as_sent : List Message → List Message
as_sent ms = ms

-- the messages sent: sender, addressee, kind
abbrev wires : World → List (ℕ × ℕ × ℕ)
wires w = map (λ m. (m.from.server, m.to.server, kind m.wire)) w.wire

-- the slots taken: by whom, the slot, the number of its value
abbrev taken : World → List (ℕ × ℕ × ℕ)
taken w = map (λ x. (x.by.server, x.taken.slot, x.taken.value.id.number)) w.took

abbrev place_of : Option Node → ℕ
place_of None = 0
place_of (Some n) = elim n.turns [ None ↦ 0 | Some w ↦ w.reading.place ]

abbrev low_of : Option Node → ℕ
low_of None = 0
low_of (Some n) = n.acceptor.low

abbrev promise_of : Option Node → ℕ
promise_of None = 0
promise_of (Some n) = n.acceptor.promise.round

abbrev kept_slots : Option Node → List ℕ
kept_slots None = []
kept_slots (Some n) = map (λ e. e.slot) n.learner.decided

abbrev config_at : Option Node → ℕ → Option (List Inc)
config_at None t = None
config_at (Some n) t = config_by n.turns t

-- An old leader's Accept comes after a new promise: it isn't voted for.
abbrev old_leader : World
old_leader = run as_sent three (Does (inc 2 1) (Owns (value (inc 2 1) 1 (Body (7 ∷ []))) ∷ []) ∷ Hears 0 [] ∷ Hears 2 [] ∷ Does (inc 3 1) (Campaigns ∷ []) ∷ Hears 5 [] ∷ Hears 1 [] ∷ [])

old_leader_wires : wires old_leader ≡ (2, 1, 6) ∷ (1, 2, 3) ∷ (1, 3, 3) ∷ (3, 1, 4) ∷ (3, 1, 1) ∷ (3, 2, 1) ∷ (2, 3, 2) ∷ []
unfolding run node_step hear hear_prepare hear_accept hear_learn hear_promise hear_accepted propose_one own_value hear_offer campaign hear_alive tick take hear_welcome forget turn read
old_leader_wires = refl

-- One value is chosen in two slots; each member takes both, and keeps the value once.
abbrev two_slots : World
two_slots = run as_sent three (Does (inc 2 1) (Owns (value (inc 2 1) 1 (Body (7 ∷ []))) ∷ []) ∷ Hears 0 [] ∷ Hears 2 [] ∷ Does (inc 3 1) (Campaigns ∷ []) ∷ Hears 5 [] ∷ Does (inc 2 1) (Ticks ∷ []) ∷ Hears 9 [] ∷ Hears 6 [] ∷ Hears 10 [] ∷ Hears 14 [] ∷ Hears 12 [] ∷ Hears 17 []
    ∷ Does (inc 3 1) (Takes None ∷ Takes None ∷ []) ∷ Hears 15 [] ∷ Hears 18 [] ∷ Does (inc 1 1) (Takes None ∷ Takes None ∷ []) ∷ Hears 3 [] ∷ [])

two_slots_taken : taken two_slots ≡ (3, 1, 1) ∷ (3, 2, 1) ∷ (1, 1, 1) ∷ (1, 2, 1) ∷ []
unfolding run node_step hear hear_prepare hear_accept hear_learn hear_promise hear_accepted propose_one own_value hear_offer campaign hear_alive tick take hear_welcome forget turn read
two_slots_taken = refl

two_slots_place : place_of (two_slots.at (inc 1 1)) ≡ 1
unfolding run node_step hear hear_prepare hear_accept hear_learn hear_promise hear_accepted propose_one own_value hear_offer campaign hear_alive tick take hear_welcome forget turn read
two_slots_place = refl

abbrev two : Group
two = record { founders = inc 1 1 ∷ inc 2 1 ∷ []; horizon = 10 }

abbrev third : Joiner
third = record { inc = inc 3 1; uuid = []; version = []; weight = 50 }

-- the view when the third has been added
abbrev shown : Shown
shown = record { number = 2; mode = Multi; primary = None; elected = 0; seat = λ i. record { joiner = record { inc = i; uuid = []; version = []; weight = 50 }; state = if i.server == 3 then Recovering else Online } }

-- Two founders; 3.1 starts and is added in slot 1, is welcomed by 1.1, and takes slot 2.
abbrev joining : World
joining = run as_sent two (Starts third (inc 1 1) ∷ Does (inc 1 1) (Owns (value (inc 1 1) 1 (Add third)) ∷ []) ∷ Hears 1 [] ∷ Hears 2 [] ∷ Does (inc 1 1) (Takes (Some shown) ∷ []) ∷ Hears 4 [] ∷ Does (inc 1 1) (Owns (value (inc 1 1) 2 (Body (9 ∷ []))) ∷ []) ∷ Hears 5 [] ∷ Hears 6 [] ∷ Hears 7 [] ∷ Hears 8 [] ∷ Does (inc 3 1) (Takes None ∷ []) ∷ [])

joining_wires : wires joining ≡ (3, 1, 6) ∷ (1, 2, 3) ∷ (2, 1, 4) ∷ (1, 2, 5) ∷ (1, 3, 7) ∷ (1, 2, 3) ∷ (2, 1, 4) ∷ (1, 2, 5) ∷ (1, 3, 5) ∷ []
unfolding run node_step hear hear_prepare hear_accept hear_learn hear_promise hear_accepted propose_one own_value hear_offer campaign hear_alive tick take hear_welcome forget turn read
joining_wires = refl

joining_taken : taken joining ≡ (1, 1, 1) ∷ (3, 2, 2) ∷ []
unfolding run node_step hear hear_prepare hear_accept hear_learn hear_promise hear_accepted propose_one own_value hear_offer campaign hear_alive tick take hear_welcome forget turn read
joining_taken = refl

-- The joiner counts from slot 1 + H on.
joining_config : config_at (joining.at (inc 3 1)) 11 ≡ Some (inc 1 1 ∷ inc 2 1 ∷ inc 3 1 ∷ [])
unfolding run node_step hear hear_prepare hear_accept hear_learn hear_promise hear_accepted propose_one own_value hear_offer campaign hear_alive tick take hear_welcome forget turn read
joining_config = refl

joining_config_before : config_at (joining.at (inc 3 1)) 10 ≡ Some (inc 1 1 ∷ inc 2 1 ∷ [])
unfolding run node_step hear hear_prepare hear_accept hear_learn hear_promise hear_accepted propose_one own_value hear_offer campaign hear_alive tick take hear_welcome forget turn read
joining_config_before = refl

joining_config_unknown : config_at (joining.at (inc 3 1)) 13 ≡ None
unfolding run node_step hear hear_prepare hear_accept hear_learn hear_promise hear_accepted propose_one own_value hear_offer campaign hear_alive tick take hear_welcome forget turn read
joining_config_unknown = refl

-- A Remove in slot 5 rules from slot 15 on.
abbrev removing : World
removing = run as_sent three (Does (inc 1 1) (Owns (value (inc 1 1) 1 (Body (1 ∷ []))) ∷ Owns (value (inc 1 1) 2 (Body (2 ∷ []))) ∷ Owns (value (inc 1 1) 3 (Body (3 ∷ []))) ∷ Owns (value (inc 1 1) 4 (Body (4 ∷ []))) ∷ []) ∷ Does (inc 3 1) (Owns (value (inc 3 1) 1 (Remove (inc 3 1))) ∷ []) ∷ Hears 8 [] ∷ Hears 0 [] ∷ Hears 2 [] ∷ Hears 4 [] ∷ Hears 6 [] ∷ Hears 9 []
    ∷ Hears 11 (Takes None ∷ []) ∷ Hears 12 (Takes None ∷ []) ∷ Hears 13 (Takes None ∷ []) ∷ Hears 14 (Takes None ∷ []) ∷ Hears 15 (Takes None ∷ []) ∷ [])

removing_before : config_at (removing.at (inc 1 1)) 14 ≡ Some (inc 1 1 ∷ inc 2 1 ∷ inc 3 1 ∷ [])
unfolding run node_step hear hear_prepare hear_accept hear_learn hear_promise hear_accepted propose_one own_value hear_offer campaign hear_alive tick take hear_welcome forget turn read
removing_before = refl

removing_after : config_at (removing.at (inc 1 1)) 15 ≡ Some (inc 1 1 ∷ inc 2 1 ∷ [])
unfolding run node_step hear hear_prepare hear_accept hear_learn hear_promise hear_accepted propose_one own_value hear_offer campaign hear_alive tick take hear_welcome forget turn read
removing_after = refl

removing_unknown : config_at (removing.at (inc 1 1)) 16 ≡ None
unfolding run node_step hear hear_prepare hear_accept hear_learn hear_promise hear_accepted propose_one own_value hear_offer campaign hear_alive tick take hear_welcome forget turn read
removing_unknown = refl

-- the rounds, slots and numbers of the values in the Accepts sent
abbrev accept_in : Message → List (ℕ × ℕ × ℕ)
accept_in m = elim m.wire [ Accept b t v ↦ (b.round, t, v.id.number) ∷ [] | _ ↦ [] ]

abbrev accepts : World → List (ℕ × ℕ × ℕ)
accepts w = flat_map accept_in w.wire

-- A new leader finds a vote in slot 2 and none in slot 1: it fills slot 1 with a Noop, and proposes the value reported in slot 2.
abbrev gap : World
gap = run as_sent three (Does (inc 1 1) (Owns (value (inc 1 1) 1 (Body (1 ∷ []))) ∷ Owns (value (inc 1 1) 2 (Body (2 ∷ []))) ∷ []) ∷ Hears 3 [] ∷ Does (inc 3 1) (Campaigns ∷ []) ∷ Hears 6 [] ∷ Hears 7 [] ∷ [])

gap_accepts : accepts gap ≡ (1, 1, 1) ∷ (1, 1, 1) ∷ (1, 2, 2) ∷ (1, 2, 2) ∷ (2, 1, 0) ∷ (2, 1, 0) ∷ (2, 2, 2) ∷ (2, 2, 2) ∷ []
unfolding run node_step hear hear_prepare hear_accept hear_learn hear_promise hear_accepted propose_one own_value hear_offer campaign hear_alive tick take hear_welcome forget turn read
gap_accepts = refl

-- A Promise is lost, and asked for again at a tick.
abbrev lost_promise : World
lost_promise = run as_sent three (Does (inc 2 1) (Campaigns ∷ []) ∷ Hears 1 [] ∷ Does (inc 2 1) (Ticks ∷ []) ∷ Hears 6 [] ∷ Hears 7 [] ∷ Does (inc 2 1) (Owns (value (inc 2 1) 1 (Body (1 ∷ []))) ∷ []) ∷ Hears 9 [] ∷ Hears 10 (Takes None ∷ []) ∷ [])

lost_promise_taken : taken lost_promise ≡ (2, 1, 1) ∷ []
unfolding run node_step hear hear_prepare hear_accept hear_learn hear_promise hear_accepted propose_one own_value hear_offer campaign hear_alive tick take hear_welcome forget turn read
lost_promise_taken = refl

lost_promise_wires : wires lost_promise ≡ (2, 1, 1) ∷ (2, 3, 1) ∷ (3, 2, 2) ∷ (2, 1, 10) ∷ (2, 3, 10) ∷ (2, 1, 1) ∷ (2, 3, 1) ∷ (3, 2, 2) ∷ (2, 1, 3) ∷ (2, 3, 3) ∷ (3, 2, 4) ∷ (2, 1, 5) ∷ (2, 3, 5) ∷ []
unfolding run node_step hear hear_prepare hear_accept hear_learn hear_promise hear_accepted propose_one own_value hear_offer campaign hear_alive tick take hear_welcome forget turn read
lost_promise_wires = refl

-- slot 1 is taken by all three, and each tells so
abbrev all_took : List Event
all_took = Does (inc 1 1) (Owns (value (inc 1 1) 1 (Body (1 ∷ []))) ∷ []) ∷ Hears 0 [] ∷ Hears 1 [] ∷ Hears 2 (Takes None ∷ []) ∷ Hears 3 [] ∷ Hears 4 (Takes None ∷ []) ∷ Hears 5 (Takes None ∷ []) ∷ Does (inc 1 1) (Ticks ∷ []) ∷ Does (inc 2 1) (Ticks ∷ []) ∷ Does (inc 3 1) (Ticks ∷ []) ∷ Hears 8 [] ∷ []

-- Slots below the least told one are forgotten.
abbrev told_by_one : World
told_by_one = run as_sent three all_took

abbrev told_by_all : World
told_by_all = run as_sent three (all_took ++ Hears 10 [] ∷ [])

kept_at_first : low_of ((run as_sent three []).at (inc 1 1)) ≡ 1
unfolding run node_step hear hear_prepare hear_accept hear_learn hear_promise hear_accepted propose_one own_value hear_offer campaign hear_alive tick take hear_welcome forget turn read
kept_at_first = refl

kept_by_one : ◌≡◌ {A = ℕ × List ℕ} (low_of (told_by_one.at (inc 1 1)), kept_slots (told_by_one.at (inc 1 1))) (1, 1 ∷ [])
unfolding run node_step hear hear_prepare hear_accept hear_learn hear_promise hear_accepted propose_one own_value hear_offer campaign hear_alive tick take hear_welcome forget turn read
kept_by_one = refl

kept_by_all : ◌≡◌ {A = ℕ × List ℕ} (low_of (told_by_all.at (inc 1 1)), kept_slots (told_by_all.at (inc 1 1))) (2, [])
unfolding run node_step hear hear_prepare hear_accept hear_learn hear_promise hear_accepted propose_one own_value hear_offer campaign hear_alive tick take hear_welcome forget turn read
kept_by_all = refl

forgotten_config : config_at (told_by_all.at (inc 1 1)) 1 ≡ None
unfolding run node_step hear hear_prepare hear_accept hear_learn hear_promise hear_accepted propose_one own_value hear_offer campaign hear_alive tick take hear_welcome forget turn read
forgotten_config = refl

-- A joiner keeps nothing below the slot after its Add.
kept_by_joiner : low_of (joining.at (inc 3 1)) ≡ 2
unfolding run node_step hear hear_prepare hear_accept hear_learn hear_promise hear_accepted propose_one own_value hear_offer campaign hear_alive tick take hear_welcome forget turn read
kept_by_joiner = refl

-- A removed member's Prepare from a forgotten slot is answered by Gone, and promises nothing.
abbrev gone : World
gone = run as_sent three (Does (inc 3 1) (Owns (value (inc 3 1) 1 (Remove (inc 3 1))) ∷ []) ∷ Hears 0 [] ∷ Hears 1 [] ∷ Hears 3 (Takes None ∷ []) ∷ Hears 4 (Takes None ∷ []) ∷ Does (inc 2 1) (Ticks ∷ []) ∷ Hears 6 [] ∷ Does (inc 3 1) (Campaigns ∷ []) ∷ Hears 7 [] ∷ [])

gone_wires : wires gone ≡ (3, 1, 6) ∷ (1, 2, 3) ∷ (1, 3, 3) ∷ (2, 1, 4) ∷ (1, 2, 5) ∷ (1, 3, 5) ∷ (2, 1, 10) ∷ (3, 1, 1) ∷ (3, 2, 1) ∷ (1, 3, 11) ∷ []
unfolding run node_step hear hear_prepare hear_accept hear_learn hear_promise hear_accepted propose_one own_value hear_offer campaign hear_alive tick take hear_welcome forget turn read
gone_wires = refl

gone_promise : promise_of (gone.at (inc 1 1)) ≡ 1
unfolding run node_step hear hear_prepare hear_accept hear_learn hear_promise hear_accepted propose_one own_value hear_offer campaign hear_alive tick take hear_welcome forget turn read
gone_promise = refl

-- A node keeps what it hasn't taken itself, whatever the others tell.
abbrev behind : World
behind = run as_sent three (Does (inc 1 1) (Owns (value (inc 1 1) 1 (Body (1 ∷ []))) ∷ []) ∷ Hears 0 [] ∷ Hears 1 [] ∷ Hears 2 [] ∷ Hears 4 (Takes None ∷ []) ∷ Hears 5 (Takes None ∷ []) ∷ Does (inc 2 1) (Ticks ∷ []) ∷ Does (inc 3 1) (Ticks ∷ []) ∷ Hears 6 [] ∷ Hears 8 [] ∷ [])

kept_behind : ◌≡◌ {A = ℕ × List ℕ} (low_of (behind.at (inc 1 1)), kept_slots (behind.at (inc 1 1))) (1, 1 ∷ [])
unfolding run node_step hear hear_prepare hear_accept hear_learn hear_promise hear_accepted propose_one own_value hear_offer campaign hear_alive tick take hear_welcome forget turn read
kept_behind = refl

-- A leader that campaigned anew gets an Accepted of its old ballot: it doesn't count, and nothing is decided.
abbrev old_vote : World
old_vote = run as_sent three (Does (inc 1 1) (Owns (value (inc 1 1) 1 (Body (1 ∷ []))) ∷ []) ∷ Hears 1 [] ∷ Does (inc 1 1) (Campaigns ∷ []) ∷ Hears 3 [] ∷ Hears 5 [] ∷ Hears 2 [] ∷ [])

old_vote_wires : wires old_vote ≡ (1, 2, 3) ∷ (1, 3, 3) ∷ (3, 1, 4) ∷ (1, 2, 1) ∷ (1, 3, 1) ∷ (2, 1, 2) ∷ (1, 2, 3) ∷ (1, 3, 3) ∷ []
unfolding run node_step hear hear_prepare hear_accept hear_learn hear_promise hear_accepted propose_one own_value hear_offer campaign hear_alive tick take hear_welcome forget turn read
old_vote_wires = refl

old_vote_kept : kept_slots (old_vote.at (inc 1 1)) ≡ []
unfolding run node_step hear hear_prepare hear_accept hear_learn hear_promise hear_accepted propose_one own_value hear_offer campaign hear_alive tick take hear_welcome forget turn read
old_vote_kept = refl
