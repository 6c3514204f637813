-- When a value is chosen in a slot, and a log is one of chosen values.
-- (Lamport, "Paxos Made Simple", section 2.1: a value is chosen when a majority of the acceptors have accepted it.)
use Rattle.std.specs.Prelude.{ℕ, Bool, ◌+◌, ◌&&◌, ◌≡◌, Some, List, slice_get, IsTrue}
use Rattle.std.specs.List.{list_any}
use Rattle.node_rules.specs.Names.{Inc, Ballot, Value, Vote}
use Rattle.gr_ids.specs.Names.{inc_eq}
use Rattle.slot_values.specs.Values.{vote_eq}
use Rattle.slot_values.specs.Log.{Group, config, majority}

-- a vote that was cast, and by whom
pub record Cast : Type 0 where
  pub by : Inc
  pub vote : Vote

abbrev pub cast_eq : Cast → Cast → Bool
cast_eq x y = inc_eq x.by y.by && vote_eq x.vote y.vote

abbrev pub has_cast : List Cast → Cast → Bool
has_cast cs x = list_any (λ y. cast_eq y x) cs

abbrev pub cast_of : Inc → ℕ → Ballot → Value → Cast
cast_of a t b v = record { by = a; vote = record { slot = t; ballot = b; value = v } }

-- Of these votes, a majority of the configuration that the log gives is for the value in the slot, at one ballot. A vote that was cast and forgotten counts.
abbrev pub IsChosen : Group → List Cast → List Value → ℕ → Value → Type 0
IsChosen g casts log t v = (b : Ballot) × IsTrue (majority (config g log t) (λ a. has_cast casts (cast_of a t b v)))

-- Each value of the log is chosen in its slot.
abbrev pub IsChosenLog : Group → List Cast → List Value → Type 0
IsChosenLog g casts log = (k : ℕ) (v : Value) → slice_get log k ≡ Some v → IsChosen g casts log (k + 1) v
