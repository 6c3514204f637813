-- Incarnations as bytes: the server, 1 to 32, in one byte, and the start, at least 1, in four.
use Rattle.std.specs.Prelude.{◌≡◌, ℕ, ◌+◌, ◌≤◌, true, Option, Some, None, List, ◌++◌, max, ◌==◌, if◌then◌else◌}
use Rattle.byte_forms.specs.Numbers.{number}
use Rattle.byte_forms.specs.Reads.{Reader, ◌>>=◌, pure}
use Rattle.byte_forms.specs.Fields.{number_in}
use Rattle.gr_ids.specs.declared.names.Inc.{Inc}
use Rattle.gr_ids.specs.Names.{inc_lt}

-- 2 ^ 32 - 1
abbrev pub last_start : ℕ
last_start = 4294967295

pub record IsInc (i : Inc) : Type 0 where
  pub server_above : 1 ≤ i.server
  pub server_below : i.server ≤ 32
  pub start_above : 1 ≤ i.start
  pub start_below : i.start ≤ last_start

abbrev pub inc_bytes : Inc → List ℕ
inc_bytes i = number 1 i.server ++ number 4 i.start

unfoldable pub next_inc : Reader Inc
next_inc = do
  server ← number_in 1 1 32
  start ← number_in 4 1 last_start
  pure (record { server = server; start = start })

-- ---- in an ascending list: above the one before

abbrev pub IsIncAfter : Option Inc → Inc → Type 0
IsIncAfter None i = IsInc i
IsIncAfter (Some b) i = IsInc i × (inc_lt b i ≡ true)

-- the least server, from 1 on, that has an incarnation above this one
abbrev pub least_server : Option Inc → ℕ
least_server None = 1
least_server (Some b) = max 1 (if b.start == last_start then b.server + 1 else b.server)

-- the least start of a server that is above this one
abbrev pub least_start : Option Inc → ℕ → ℕ
least_start None server = 1
least_start (Some b) server = if server == b.server then b.start + 1 else 1

unfoldable pub next_inc_after : Option Inc → Reader Inc
next_inc_after before = do
  server ← number_in 1 (least_server before) 32
  start ← number_in 4 (least_start before server) last_start
  pure (record { server = server; start = start })
