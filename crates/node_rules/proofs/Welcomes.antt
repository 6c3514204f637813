-- When a Welcome is in order, tried on cases.
use Rattle.std.proofs.Common.{◌≡◌, ℕ, true, false, Option, Some, None, List, [], ◌∷◌, ◌++◌, refl}
use Rattle.node_rules.specs.Names.{Inc, Value, Noop, Welcome, WelcomeMember, MemberState, Online, Recovering, Mode, Single, Multi}
use Rattle.node_rules.specs.Node.{Node, joiner}
use Rattle.node_rules.specs.Welcoming.{is_in_order, is_for, hear_welcome}

abbrev inc : ℕ → ℕ → Inc
inc s n = record { server = s; start = n }

abbrev seated : ℕ → MemberState → WelcomeMember
seated s x = record { joiner = record { inc = inc s 1; uuid = []; version = []; weight = 50 }; state = x; last = 0 }

abbrev welcome : List WelcomeMember → Mode → Option Inc → List (List Inc) → Welcome
welcome ms mode primary configs = record { slot = 1; place = 1; number = 2; promise = record { round = 1; inc = inc 1 1 }; mode = mode; primary = primary; elected = 0; members = ms; ever = inc 1 1 ∷ inc 2 1 ∷ []; configs = configs }

abbrev both : List WelcomeMember
both = seated 1 Online ∷ seated 2 Recovering ∷ []

abbrev one_then_two : List (List Inc)
one_then_two = (inc 1 1 ∷ []) ∷ (inc 1 1 ∷ inc 2 1 ∷ []) ∷ []

in_order : is_in_order (welcome both Single (Some (inc 1 1)) one_then_two) ≡ true
in_order = refl

-- the primary isn't ONLINE; it is named in mode multi
recovering_primary : is_in_order (welcome both Single (Some (inc 2 1)) one_then_two) ≡ false
recovering_primary = refl

primary_of_many : is_in_order (welcome both Multi (Some (inc 1 1)) one_then_two) ≡ false
primary_of_many = refl

-- a list is empty, doesn't ascend, or isn't that of the members
empty_config : is_in_order (welcome both Multi None ([] ∷ (inc 1 1 ∷ inc 2 1 ∷ []) ∷ [])) ≡ false
empty_config = refl

descending_config : is_in_order (welcome both Multi None ((inc 2 1 ∷ inc 1 1 ∷ []) ∷ (inc 1 1 ∷ inc 2 1 ∷ []) ∷ [])) ≡ false
descending_config = refl

other_members : is_in_order (welcome both Multi None ((inc 1 1 ∷ inc 2 1 ∷ []) ∷ (inc 1 1 ∷ []) ∷ [])) ≡ false
other_members = refl

stranger : is_in_order (welcome (both ++ seated 3 Online ∷ []) Multi None ((inc 1 1 ∷ inc 2 1 ∷ inc 3 1 ∷ []) ∷ [])) ≡ false
stranger = refl

-- it is for an incarnation that is RECOVERING among the members, and for this horizon
for_the_joiner : is_for (welcome both Multi None one_then_two) (inc 2 1) 2 ≡ true
for_the_joiner = refl

for_no_founder : is_for (welcome both Multi None one_then_two) (inc 1 1) 2 ≡ false
for_no_founder = refl

for_another_horizon : is_for (welcome both Multi None one_then_two) (inc 2 1) 3 ≡ false
for_another_horizon = refl

-- ---- beginning with one

-- a joiner that has promised so much and learnt slots 2 and 4
abbrev joining : ℕ → Node
joining r =
    let v : Value = record { id = record { origin = inc 1 1; number = 1 }; what = Noop } in
    record (joiner (record { founders = inc 1 1 ∷ []; horizon = 2 }) (inc 2 1)) {
      acceptor = record { promise = record { round = r; inc = inc 1 1 }; votes = []; low = 0 };
      learner = record { decided = record { slot = 2; value = v } ∷ record { slot = 4; value = v } ∷ []; slot = 0; next = 0 };
    }

abbrev begun : ℕ → Node
begun r = (hear_welcome (welcome both Multi None one_then_two) (joining r)).node

-- the promise doesn't fall, and rises to the sender's
promise_stays : (begun 3).acceptor.promise.round ≡ 3
unfolding hear_welcome
promise_stays = refl

promise_rises : (begun 0).acceptor.promise.round ≡ 1
unfolding hear_welcome
promise_rises = refl

-- slots are handed out from the one after the Add; slot 3 isn't decided
next_slots : ◌≡◌ {A = ℕ × ℕ} ((begun 3).learner.slot, (begun 3).learner.next) (2, 3)
unfolding hear_welcome
next_slots = refl

-- of the other members each counts from there
told_slots : (begun 3).told ≡ record { inc = inc 1 1; slot = 2 } ∷ []
unfolding hear_welcome
told_slots = refl

-- a second Welcome counts no more
second_welcome : (hear_welcome (record (welcome both Multi None one_then_two) { slot = 3 }) (begun 3)).node.learner.slot ≡ 2
unfolding hear_welcome
second_welcome = refl
