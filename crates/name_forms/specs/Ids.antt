-- Identities of values as bytes: the origin, and the number in eight bytes.
use Rattle.std.specs.Prelude.{ℕ, ◌≤◌, List, ◌++◌}
use Rattle.byte_forms.specs.Numbers.{number}
use Rattle.byte_forms.specs.Reads.{Reader, ◌>>=◌, pure}
use Rattle.byte_forms.specs.Fields.{number_in}
use Rattle.gr_ids.specs.declared.names.ValueId.{ValueId}
use Rattle.name_forms.specs.Incs.{IsInc, inc_bytes, next_inc}

-- 2 ^ 64 - 1
abbrev pub last_u64 : ℕ
last_u64 = 18446744073709551615

pub record IsId (x : ValueId) : Type 0 where
  pub origin : IsInc x.origin
  pub number_below : x.number ≤ last_u64

abbrev pub id_bytes : ValueId → List ℕ
id_bytes x = inc_bytes x.origin ++ number 8 x.number

unfoldable pub next_id : Reader ValueId
next_id = do
  origin ← next_inc
  n ← number_in 8 0 last_u64
  pure (record { origin = origin; number = n })
