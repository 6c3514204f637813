-- How a text is read as a GTID set. Its intervals may come in any order, overlap and repeat, and blanks may stand at both ends and around commas,
-- colons and dashes. (MySQL 8.0 Reference Manual, GTID Sets.) The first fault refuses the text; blanks that may stand before it are passed over.
use Rattle.std.specs.Prelude.{ℕ, zero, suc, ◌-◌, ◌==◌, Bool, true, false, ◌&&◌, ◌||◌, not, nat_lt, nat_le, Option, Some, None, Result, Ok, Err, List, [], ◌∷◌, length, take, drop}
use Rattle.std.specs.List.{prefix_len}
use Rattle.std.specs.Char.{is_ascii_digit}
use Rattle.std.specs.Str.Parse.{digits_value}
use Rattle.gr_ids.specs.Uuids.{uuid_of}
use Rattle.gtid_sets.specs.declared.faults.TextFault.{TextFault}
use Rattle.gtid_sets.specs.declared.faults.TextFault.TheVariants.{BadUuid, BadInterval, BadNumber, Trailing}
use Rattle.gtid_sets.specs.declared.scanner.Joint.{Joint}
use Rattle.gtid_sets.specs.declared.scanner.Joint.TheVariants.{End, Interval as ColonJoint, Source as CommaJoint}
use Rattle.gtid_sets.specs.Sets.{Run, Gtids, with_run}
use Rattle.gtid_sets.specs.Canonical.{last_number}
use Rattle.gtid_sets.specs.Spelling.{Interval}
use Rattle.gtid_sets.specs.Pieces.{run_of}
use Rattle.gtid_sets.specs.Text.{Text}

-- what stands at the front of a text, and the text behind it
pub data Scan (A : Type 0) : Type 0 where
  Found : A → Text → Scan A
  Refused : TextFault → Scan A

abbrev pub found_then : {A B : Type 0} → Scan A → (A → Text → Scan B) → Scan B
found_then (Found x rest) next = next x rest
found_then (Refused e) next = Refused e

-- where a text stands that ends a text of this length
abbrev pub place : ℕ → Text → ℕ
place whole text = whole - length text

-- space, tab, CR, LF
abbrev pub is_blank : ℕ → Bool
is_blank b = b == 32 || b == 9 || b == 13 || b == 10

abbrev pub after_blanks : Text → Text
after_blanks text = drop (prefix_len is_blank text) text

abbrev pub starts_with : ℕ → Text → Bool
starts_with byte [] = false
starts_with byte (b ∷ text) = b == byte

-- ---- numbers, 1 to 2^63-2, without a leading zero, and intervals

abbrev pub is_number : Text → Bool
is_number [] = false
is_number (d ∷ ds) = not (d == 48) && nat_le 1 (digits_value 10 (d ∷ ds)) && nat_le (digits_value 10 (d ∷ ds)) last_number

unfoldable pub next_number : ℕ → Text → Scan ℕ
next_number whole text =
    let n = prefix_len is_ascii_digit text in
    elim (is_number (take n text)) [ true ↦ Found (digits_value 10 (take n text)) (drop n text) | false ↦ Refused (BadNumber (place whole text)) ]

-- the last number behind a first one: that behind a dash, or the first one itself
unfoldable pub next_last : ℕ → ℕ → Text → Scan ℕ
next_last whole first text = elim (starts_with 45 text) [ true ↦ next_number whole (after_blanks (drop 1 text)) | false ↦ Found first text ]

unfoldable pub next_interval : ℕ → Text → Scan Interval
next_interval whole text =
    found_then (next_number whole text) (λ first rest.
    found_then (next_last whole first (after_blanks rest)) (λ last behind.
    elim (nat_lt last first) [ true ↦ Refused (BadInterval (place whole text)) | false ↦ Found (record { first = first; last = last }) behind ]))

-- ---- sources

unfoldable pub next_uuid : ℕ → Text → Scan (List ℕ)
next_uuid whole text = elim (uuid_of (take 36 text)) [ Some u ↦ Found u (drop 36 text) | None ↦ Refused (BadUuid (place whole text)) ]

-- a UUID and its colon
unfoldable pub next_source : ℕ → Text → Scan (List ℕ)
next_source whole text =
    found_then (next_uuid whole text) (λ u rest.
    let colon = after_blanks rest in
    elim (starts_with 58 colon) [ true ↦ Found u (after_blanks (drop 1 colon)) | false ↦ Refused (BadInterval (place whole colon)) ])

-- the source of the next run: the one before it, or one that is named
unfoldable pub source_or_next : ℕ → Option (List ℕ) → Text → Scan (List ℕ)
source_or_next whole (Some u) text = Found u text
source_or_next whole None text = next_source whole text

unfoldable pub next_run : ℕ → Option (List ℕ) → Text → Scan Run
next_run whole before text =
    found_then (source_or_next whole before text) (λ u rest.
    found_then (next_interval whole rest) (λ i behind. Found (run_of u i) behind))

-- ---- sets

-- what follows a run: the end, a colon and a run of the same source, or a comma and another source
unfoldable pub next_joint : ℕ → Text → Scan Joint
next_joint whole [] = Found End []
next_joint whole (b ∷ text) =
    elim (b == 58) [
      | true ↦ Found ColonJoint (after_blanks text)
      | false ↦ elim (b == 44) [ true ↦ Found CommaJoint (after_blanks text) | false ↦ Refused (Trailing (place whole (b ∷ text))) ]
    ]

abbrev pub source_behind : Joint → List ℕ → Option (List ℕ)
source_behind ColonJoint u = Some u
source_behind other u = None

-- how the rest of a text is read, from the source of its first run and the set so far
abbrev pub Reading : Type 0
Reading = Option (List ℕ) → Gtids → Text → Result Gtids TextFault

abbrev pub behind_run : Reading → Gtids → Run → Scan Joint → Result Gtids TextFault
behind_run read_rest set run (Refused e) = Err e
behind_run read_rest set run (Found End behind) = Ok (with_run set run)
behind_run read_rest set run (Found joint behind) = read_rest (source_behind joint run.source) (with_run set run) behind

abbrev pub from_run : Reading → ℕ → Gtids → Scan Run → Result Gtids TextFault
from_run read_rest whole set (Refused e) = Err e
from_run read_rest whole set (Found run rest) = behind_run read_rest set run (next_joint whole (after_blanks rest))

-- the runs of a text, of which there are no more than the first number, put into a set
unfoldable pub runs_in : ℕ → ℕ → Reading
runs_in zero whole before set text = Ok set
runs_in (suc n) whole before set text = from_run (runs_in n whole) whole set (next_run whole before text)

abbrev pub front_set : Text → ℕ → Result Gtids TextFault
front_set [] whole = Ok []
front_set (b ∷ text) whole = runs_in (suc (length (b ∷ text))) whole None [] (b ∷ text)

-- a text of blanks alone is the empty set
unfoldable pub set_of : Text → Result Gtids TextFault
set_of text = front_set (after_blanks text) (length text)
