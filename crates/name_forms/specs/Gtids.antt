-- GTIDs as bytes: the source's sixteen bytes, and the number, 1 to 2^63-2, in eight.
use Rattle.std.specs.Prelude.{◌≡◌, ℕ, ◌≤◌, List, ◌++◌, length}
use Rattle.byte_forms.specs.Numbers.{number}
use Rattle.byte_forms.specs.Reads.{Reader, ◌>>=◌, pure}
use Rattle.byte_forms.specs.Fields.{number_in, word}
use Rattle.gr_ids.specs.declared.names.Gtid.{Gtid}

-- 2 ^ 63 - 2
abbrev pub last_gtid_number : ℕ
last_gtid_number = 9223372036854775806

pub record IsGtid (g : Gtid) : Type 0 where
  pub source : length g.source ≡ 16
  pub number_above : 1 ≤ g.number
  pub number_below : g.number ≤ last_gtid_number

abbrev pub gtid_bytes : Gtid → List ℕ
gtid_bytes g = g.source ++ number 8 g.number

unfoldable pub next_gtid : Reader Gtid
next_gtid = do
  source ← word 16
  n ← number_in 8 1 last_gtid_number
  pure (record { source = source; number = n })
