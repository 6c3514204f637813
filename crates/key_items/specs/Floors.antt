-- Strings of n bytes that are above a floor, or from it on; and where such a field breaks off.
use Rattle.std.specs.Prelude.{ℕ, Bool, ◌&&◌, ◌||◌, Option, Some, None, List}
use Rattle.byte_forms.specs.Reads.{Read, Got, Fault}
use Rattle.gr_ids.specs.Names.{bytes_eq, bytes_lt}
use Rattle.key_items.specs.Spelling.{greatest}

-- such a string begins so: the greatest one that does is above the floor, or is the floor where that may be
abbrev pub passes : List ℕ → Bool → ℕ → List ℕ → Bool
passes floor itself n front = bytes_lt floor (greatest n front) || (bytes_eq floor (greatest n front) && itself)

-- how many bytes are left where the spelling breaks off
abbrev pub left_at : {A : Type 0} → Read A → Option ℕ
left_at (Got x rest) = None
left_at (Fault left) = Some left
