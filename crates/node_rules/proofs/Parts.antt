-- The acceptor, the learner and the leader, tried on cases.
use Rattle.std.proofs.Common.{◌≡◌, ℕ, Bool, true, false, Option, Some, None, List, [], ◌∷◌, refl}
use Rattle.std.specs.Prelude.{map, option_map}
use Rattle.node_rules.specs.Names.{Inc, Ballot, Value, Vote, Remove, Body}
use Rattle.node_rules.specs.Slots.{Entry}
use Rattle.node_rules.specs.Acceptor.{Acceptor, refuses, voting, votes_from}
use Rattle.node_rules.specs.Learner.{Learner, new_learner, is_decided, learn, next_entry, pass, waiting, learnt_remove, forget_decided}
use Rattle.node_rules.specs.Leader.{Promised, Leader, Choice, keep_promise, best, refuses_offer, take_offer, free_slot, choice_by}

abbrev inc : ℕ → Inc
inc s = record { server = s; start = 1 }

abbrev ballot : ℕ → Ballot
ballot r = record { round = r; inc = inc 3 }

abbrev value : ℕ → Value
value k = record { id = record { origin = inc 1; number = k }; what = Body (k ∷ []) }

abbrev vote : ℕ → ℕ → ℕ → Vote
vote t r k = record { slot = t; ballot = ballot r; value = value k }

abbrev promise : ℕ → List Vote → Promised
promise s xs = record { inc = inc s; votes = xs }

abbrev slots_of : List Vote → List (ℕ × ℕ)
slots_of xs = map (λ x. (x.slot, x.value.id.number)) xs

abbrev number_in : Option Vote → Option ℕ
number_in o = option_map (λ x. x.value.id.number) o

-- ---- the acceptor

-- it has promised round 3, and forgot the slots below 2
abbrev acceptor : Acceptor
acceptor = record { promise = ballot 3; votes = vote 2 1 7 ∷ vote 4 3 8 ∷ []; low = 2 }

refuses_below : ◌≡◌ {A = Bool × Bool × Bool} (refuses acceptor (ballot 2) 2, refuses acceptor (ballot 3) 2, refuses acceptor (ballot 4) 2) (true, false, false)
refuses_below = refl

-- of one round the greater incarnation's ballot is the higher one
refuses_lesser : refuses acceptor (record { round = 3; inc = inc 2 }) 2 ≡ true
refuses_lesser = refl

refuses_forgotten : refuses acceptor (ballot 4) 1 ≡ true
refuses_forgotten = refl

votes_once : slots_of (voting (voting acceptor (vote 4 4 9)) (vote 3 4 6)).votes ≡ (2, 7) ∷ (3, 6) ∷ (4, 9) ∷ []
votes_once = refl

reports : ◌≡◌ {A = List (ℕ × ℕ) × List (ℕ × ℕ)} (slots_of (votes_from acceptor 2), slots_of (votes_from acceptor 3)) ((2, 7) ∷ (4, 8) ∷ [], (4, 8) ∷ [])
reports = refl

-- ---- the learner

-- slots 1, 2 and 4 are decided, and slot 1 was handed out
abbrev learner : Learner
learner = pass (learn (learn (learn (new_learner 1) 4 (value 4)) 1 (value 1)) 2 (value 2))

abbrev entries : List Entry → List (ℕ × ℕ)
entries es = map (λ e. (e.slot, e.value.id.number)) es

learnt : entries learner.decided ≡ (1, 1) ∷ (2, 2) ∷ (4, 4) ∷ []
learnt = refl

least_undecided : ◌≡◌ {A = ℕ × ℕ} (learner.slot, learner.next) (2, 3)
least_undecided = refl

fills_the_gap : (learn learner 3 (value 3)).next ≡ 5
fills_the_gap = refl

-- a slot is decided once
learnt_twice : learn learner 4 (value 9) ≡ learner
learnt_twice = refl

next_is_two : option_map {U = ℕ × ℕ} (λ e. (e.slot, e.value.id.number)) (next_entry learner) ≡ Some (2, 2)
next_is_two = refl

next_is_missing : next_entry (pass learner) ≡ None
next_is_missing = refl

waits : waiting learner ≡ 2 ∷ 4 ∷ []
waits = refl

forgotten_is_decided : ◌≡◌ {A = List (ℕ × ℕ) × Bool} (entries (forget_decided 2 learner).decided, is_decided (forget_decided 2 learner) 1) ((2, 2) ∷ (4, 4) ∷ [], true)
forgotten_is_decided = refl

-- a Remove counts where its slot wasn't handed out
abbrev removal : Value
removal = record { id = record { origin = inc 1; number = 5 }; what = Remove (inc 2) }

learns_of_removal : ◌≡◌ {A = Bool × Bool × Bool} (learnt_remove (learn learner 3 removal) (inc 2), learnt_remove (learn learner 3 removal) (inc 1), learnt_remove (pass (pass (learn learner 3 removal))) (inc 2)) (true, false, false)
learns_of_removal = refl

-- ---- the highest vote reported

abbrev promises : List Promised
promises = promise 1 (vote 1 2 7 ∷ []) ∷ promise 2 (vote 1 4 8 ∷ vote 2 1 9 ∷ []) ∷ promise 4 (vote 1 5 6 ∷ []) ∷ []

-- it is that of the highest ballot, wherever it stands
highest : number_in (best (inc 1 ∷ inc 2 ∷ inc 3 ∷ []) promises 1) ≡ Some 8
highest = refl

highest_first : number_in (best (inc 1 ∷ inc 2 ∷ inc 4 ∷ []) (promise 4 (vote 1 5 6 ∷ []) ∷ promises) 1) ≡ Some 6
highest_first = refl

-- one outside the configuration doesn't count, nor does a vote in another slot
outside : number_in (best (inc 1 ∷ inc 3 ∷ []) promises 1) ≡ Some 7
outside = refl

no_vote : number_in (best (inc 1 ∷ inc 3 ∷ []) promises 2) ≡ None
no_vote = refl

-- ---- promises and offers

abbrev leader : Leader
leader = record {
  ballot = ballot 2;
  promises = promise 3 [] ∷ [];
  proposals = record { slot = 3; value = value 5; accepted = [] } ∷ [];
  offers = value 6 ∷ [];
}

-- a promise is kept once for each sender
kept_once : (keep_promise (keep_promise leader (inc 1) []) (inc 1) (vote 1 1 1 ∷ [])).promises ≡ promise 3 [] ∷ promise 1 [] ∷ []
kept_once = refl

abbrev nothing_done : ℕ → Bool
nothing_done t = false

abbrev all_done : ℕ → Bool
all_done t = true

-- the last kept number of each origin is 4
abbrev four : Inc → ℕ
four i = 4

offered_twice : refuses_offer nothing_done four leader (value 6) ≡ true
offered_twice = refl

proposed_already : refuses_offer nothing_done four leader (value 5) ≡ true
proposed_already = refl

-- a proposal of a decided slot is no hindrance
proposed_before : refuses_offer all_done four leader (value 5) ≡ false
proposed_before = refl

kept_already : refuses_offer nothing_done four leader (value 4) ≡ true
kept_already = refl

goes_last : (take_offer nothing_done four leader (value 7)).offers ≡ value 6 ∷ value 7 ∷ []
goes_last = refl

-- ---- the slot and the value

-- slot 3 is proposed already
free_from_three : free_slot nothing_done leader 2 3 ≡ Some 4
free_from_three = refl

none_free : free_slot nothing_done leader 1 3 ≡ None
none_free = refl

abbrev chosen : Option Choice → Option (ℕ × ℕ × List Value)
chosen o = option_map (λ c. (c.slot, c.value.id.number, c.offers)) o

by_vote : chosen (choice_by true leader 4 (Some (vote 4 1 9))) ≡ Some (4, 9, value 6 ∷ [])
by_vote = refl

by_gap : chosen (choice_by true leader 4 None) ≡ Some (4, 0, value 6 ∷ [])
by_gap = refl

by_offer : chosen (choice_by false leader 4 None) ≡ Some (4, 6, [])
by_offer = refl

without_offers : chosen (choice_by false (record leader { offers = [] }) 4 None) ≡ None
without_offers = refl
