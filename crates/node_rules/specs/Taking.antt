-- Taking the next decided slot, and forgetting the slots that every member has.
-- (Lamport, "Paxos Made Simple", section 3: commands are executed in the order of their slots. The forgetting is the project's own.)
use Rattle.std.specs.Prelude.{ℕ, ◌+◌, not, Option, Some, None, List, [], ◌∷◌, ◌++◌, filter, fold, min, nat_lt, option_map, if◌then◌else◌}
use Rattle.node_rules.specs.Names.{Inc, Value, What, Add, Remove, Kept}
use Rattle.gr_ids.specs.Names.{inc_eq}
use Rattle.slot_values.specs.Log.{Turns, Reading, last_in, became, turn, forget_configs}
use Rattle.node_rules.specs.Slots.{Entry}
use Rattle.node_rules.specs.Acceptor.{forget_votes}
use Rattle.node_rules.specs.Learner.{next_entry, pass, forget_decided}
use Rattle.node_rules.specs.Leader.{forget_proposals}
use Rattle.node_rules.specs.Node.{Node, Told, takes_effect, Effect, quiet, also}

-- ---- told slots

-- a member that an Add makes counts from the slot after it; one that a Remove ends counts no more
abbrev pub told_after : List Told → What → ℕ → List Told
told_after ts (Add j) s = ts ++ record { inc = j.inc; slot = s + 1 } ∷ []
told_after ts (Remove i) s = filter (λ x. not (inc_eq x.inc i)) ts
told_after ts _ s = ts

-- the least of the told slots and of the node's own least slot not handed out
abbrev pub least_told : Node → ℕ
least_told n = fold (λ k x. min k x.slot) n.learner.slot n.told

-- ---- forgetting

-- votes, decided values, proposals and configurations of slots below k are forgotten, and `low` becomes k; it never falls
unfoldable pub forget : ℕ → Node → Node
forget k n =
    if nat_lt n.acceptor.low k
    then record n { acceptor = forget_votes k n.acceptor; learner = forget_decided k n.learner; leader = option_map (forget_proposals k) n.leader; turns = option_map (forget_configs k) n.turns }
    else n

-- how each event ends
abbrev pub forgets : Node → Effect
forgets n = quiet (forget (least_told n) n)

-- ---- taking a slot

-- own values above the last kept number
abbrev pub unkept : Inc → Reading → List Value → List Value
unkept me r vs = filter (λ v. nat_lt (last_in r.members me) v.id.number) vs

abbrev pub take_entry : Node → Turns → Entry → Effect
take_entry n w e =
    let u : Turns = turn w e.value in
    let k : Kept = became w.reading e.value in
    record {
      node = record n {
        learner = pass n.learner;
        turns = Some u;
        told = if takes_effect k then told_after n.told e.value.what e.slot else n.told;
        own = unkept n.me u.reading n.own;
      };
      sent = [];
      cast = [];
      took = record { slot = e.slot; value = e.value; kept = k } ∷ [];
    }

abbrev pub take_next : Node → Option Turns → Option Entry → Effect
take_next n None e = quiet n
take_next n (Some w) None = quiet n
take_next n (Some w) (Some e) = take_entry n w e

-- the next slot is handed out, if it is decided here
unfoldable pub take : Node → Effect
take n = also (take_next n n.turns (next_entry n.learner)) forgets
