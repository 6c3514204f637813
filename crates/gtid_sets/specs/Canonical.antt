-- The form of a GTID set: its longest runs, ascending by source, then number.
use Rattle.std.specs.Prelude.{◌≡◌, ℕ, ◌≤◌, true, List, [], ◌∷◌, length}
use Rattle.byte_forms.specs.Numbers.{are_bytes}
use Rattle.gtid_sets.specs.Sets.{Run, Gtids, before_run}

-- the greatest number of a GTID, 2 ^ 63 - 2
abbrev pub last_number : ℕ
last_number = 9223372036854775806

-- sixteen bytes
pub record IsUuid (id : List ℕ) : Type 0 where
  pub long : length id ≡ 16
  pub bytes : are_bytes id ≡ true

-- some numbers of one source
pub record IsRun (r : Run) : Type 0 where
  pub uuid : IsUuid r.source
  pub positive : 1 ≤ r.first
  pub ordered : r.first ≤ r.last
  pub bounded : r.last ≤ last_number

-- a run stands before the first one, with a gap between
abbrev pub IsBefore : Run → Gtids → Type 0
IsBefore r [] = Unit {0}
IsBefore r (s ∷ rs) = before_run r s ≡ true

abbrev pub IsCanonical : Gtids → Type 0
IsCanonical [] = Unit {0}
IsCanonical (r ∷ rs) = IsRun r × IsBefore r rs × IsCanonical rs

-- a UUID and a number from 1 to 2 ^ 63 - 2 (the UUID's sixteen bytes are in its type)
abbrev pub IsNumber : ℕ → Type 0
IsNumber n = (1 ≤ n) × (n ≤ last_number)
