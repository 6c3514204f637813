-- How the decided slots of a learner stand in a map by slot.
use Rattle.std.specs.Prelude.{ℕ, ◌≤◌, ◌+◌, List, filter, nat_le, nat_lt, ◌&&◌}
use Rattle.std.specs.List.{AllByRecursion}
use Rattle.slot_values.specs.declared.value.Value.{Value}
use Rattle.paxos_votes.specs.declared.learner.KnownSlot.{KnownSlot}
use Rattle.slot_values.specs.Slots.{last_slot}
use Rattle.node_rules.specs.Slots.{Entry}

-- the entries of slots from s on
abbrev pub entries_from : {X : Type 0} → ℕ → List (ℕ × X) → List (ℕ × X)
entries_from s es = filter (λ e. nat_le s e.0) es

-- those of slots from s to before t
abbrev pub entries_within : {X : Type 0} → ℕ → ℕ → List (ℕ × X) → List (ℕ × X)
entries_within s t es = filter (λ e. nat_le s e.0 && nat_lt e.0 t) es

abbrev pub entry_of : ℕ × Value → Entry
entry_of e = record { slot = e.0; value = e.1 }

abbrev pub entry_in : KnownSlot → Entry
entry_in d = record { slot = d.slot; value = d.value }

-- no slot is above the last one
pub record InRange (es : List (ℕ × Value)) (next : ℕ) : Type 0 where
  pub slots : AllByRecursion (λ e. e.0 ≤ last_slot) es
  pub least : next ≤ last_slot + 1
