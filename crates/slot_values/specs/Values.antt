-- Tests of values and votes.
use Rattle.std.specs.Prelude.{Bool, true, false, ◌&&◌, ◌==◌}
pub use Rattle.gr_ids.specs.declared.names.Inc.{Inc}
use Rattle.gr_ids.specs.Names.{inc_eq, ballot_eq, id_eq, bytes_eq}
pub use Rattle.slot_values.specs.declared.value.Joiner.{Joiner}
pub use Rattle.slot_values.specs.declared.value.What.{What}
pub use Rattle.slot_values.specs.declared.value.What.TheVariants.{Noop, Add, Remove, Body}
pub use Rattle.slot_values.specs.declared.value.Value.{Value}
pub use Rattle.slot_values.specs.declared.value.Vote.{Vote}

abbrev pub joiner_eq : Joiner → Joiner → Bool
joiner_eq x y = (inc_eq x.inc y.inc && bytes_eq x.uuid y.uuid) && (bytes_eq x.version y.version && (x.weight == y.weight))

abbrev pub what_eq : What → What → Bool
what_eq Noop Noop = true
what_eq (Add x) (Add y) = joiner_eq x y
what_eq (Remove x) (Remove y) = inc_eq x y
what_eq (Body x) (Body y) = bytes_eq x y
what_eq _ _ = false

abbrev pub value_eq : Value → Value → Bool
value_eq x y = id_eq x.id y.id && what_eq x.what y.what

abbrev pub vote_eq : Vote → Vote → Bool
vote_eq x y = (x.slot == y.slot) && (ballot_eq x.ballot y.ballot && value_eq x.value y.value)

abbrev pub is_noop : What → Bool
is_noop Noop = true
is_noop _ = false
