-- GTID sets as bytes: a list of sources, strictly ascending by UUID, each its sixteen bytes and a list, not empty, of intervals, each the
-- first and the last number in eight bytes. An interval begins above the number behind the one before it.
use Rattle.std.specs.Prelude.{ℕ, ◌<◌, ◌^◌, ◌-◌, ◌+◌, Bool, true, false, ◌&&◌, Option, Some, None, List, [], ◌∷◌, ◌++◌, length, map, replicate}
use Rattle.std.specs.List.{flat_map, AllByRecursion}
use Rattle.byte_forms.specs.Numbers.{number, are_bytes}
use Rattle.byte_forms.specs.Reads.{Reader, ◌>>=◌, pure}
use Rattle.byte_forms.specs.Fields.{field, number_in}
use Rattle.byte_forms.specs.Lists.{several, list_of}
use Rattle.gr_ids.specs.Names.{bytes_eq, bytes_lt}
use Rattle.gtid_sets.specs.Sets.{Run, Gtids}
use Rattle.gtid_sets.specs.Canonical.{last_number}

pub record Interval : Type 0 where
  pub first : ℕ
  pub last : ℕ

pub record Source : Type 0 where
  pub uuid : List ℕ
  pub intervals : List Interval

-- ---- the runs of a set, by source

abbrev pub interval_of : Run → Interval
interval_of r = record { first = r.first; last = r.last }

abbrev pub with_first : Run → List Source → List Source
with_first r [] = record { uuid = r.source; intervals = interval_of r ∷ [] } ∷ []
with_first r (s ∷ ss) =
    elim (bytes_eq r.source s.uuid) [
      | true ↦ record { uuid = s.uuid; intervals = interval_of r ∷ s.intervals } ∷ ss
      | false ↦ record { uuid = r.source; intervals = interval_of r ∷ [] } ∷ s ∷ ss
    ]

abbrev pub sources_of : Gtids → List Source
sources_of [] = []
sources_of (r ∷ rs) = with_first r (sources_of rs)

abbrev pub runs_of : List Source → Gtids
runs_of ss = flat_map (λ s. map (λ i. record { source = s.uuid; first = i.first; last = i.last }) s.intervals) ss

-- ---- spelling

abbrev pub interval_bytes : Interval → List ℕ
interval_bytes i = number 8 i.first ++ number 8 i.last

abbrev pub source_bytes : Source → List ℕ
source_bytes s = s.uuid ++ several interval_bytes s.intervals

abbrev pub set_bytes : Gtids → List ℕ
set_bytes s = several source_bytes (sources_of s)

-- ---- reading

abbrev pub least_first : Option Interval → ℕ
least_first None = 1
least_first (Some b) = b.last + 2

-- an interval that begins no lower than this
abbrev pub interval_from : ℕ → Reader Interval
interval_from low = do
  first ← number_in 8 low last_number
  last ← number_in 8 first last_number
  pure (record { first = first; last = last })

unfoldable pub next_interval_after : Option Interval → Reader Interval
next_interval_after before = interval_from (least_first before)

-- whether a UUID is above the one before
abbrev pub is_above : Option (List ℕ) → List ℕ → Bool
is_above None u = true
is_above (Some b) u = bytes_lt b u

-- whether a UUID above the one before begins so: the greatest that begins so is above
abbrev pub begins_uuid : Option (List ℕ) → List ℕ → Bool
begins_uuid before front = are_bytes front && is_above before (front ++ replicate (16 - length front) 255)

-- a source above the UUID before
unfoldable pub next_source_above : Option (List ℕ) → Reader Source
next_source_above before = do
  uuid ← field (begins_uuid before) 16
  intervals ← list_of 1 next_interval_after
  pure (record { uuid = uuid; intervals = intervals })

abbrev pub uuid_of : Option Source → Option (List ℕ)
uuid_of None = None
uuid_of (Some s) = Some s.uuid

abbrev pub next_source_after : Option Source → Reader Source
next_source_after before = next_source_above (uuid_of before)

unfoldable pub next_set : Reader Gtids
next_set = do
  sources ← list_of 0 next_source_after
  pure (runs_of sources)

-- ---- what has a spelling

-- Each count fits four bytes. A set of 2 ^ 32 runs would take 128 GiB.
abbrev pub HasCounts : Gtids → Type 0
HasCounts s = (length (sources_of s) < 2 ^ 32) × AllByRecursion (λ x. length x.intervals < 2 ^ 32) (sources_of s)
