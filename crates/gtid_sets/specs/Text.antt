-- The text of a GTID set: its sources ascending, joined by commas, each its UUID and then its runs, each behind a colon, as `n` or `n-m`.
-- The empty set has the empty text. (MySQL 8.0 Reference Manual, GTID Sets.)
use Rattle.std.specs.Prelude.{ℕ, ◌==◌, true, false, List, [], ◌∷◌, ◌++◌, codes, decimal}
use Rattle.std.specs.List.{flat_map}
use Rattle.gr_ids.specs.Uuids.{uuid_text}
use Rattle.gtid_sets.specs.Sets.{Gtids}
use Rattle.gtid_sets.specs.Spelling.{Interval, Source, sources_of}

abbrev pub Text : Type 0
Text = List ℕ

-- ---- by how a number is written

abbrev pub span_text_by : (ℕ → Text) → Interval → Text
span_text_by write i = elim (i.first == i.last) [ true ↦ write i.first | false ↦ write i.first ++ (codes "-" ++ write i.last) ]

abbrev pub interval_text_by : (ℕ → Text) → Interval → Text
interval_text_by write i = codes ":" ++ span_text_by write i

abbrev pub source_text_by : (ℕ → Text) → Source → Text
source_text_by write s = uuid_text s.uuid ++ flat_map (interval_text_by write) s.intervals

abbrev pub joined_text_by : (ℕ → Text) → Source → Text
joined_text_by write s = codes "," ++ source_text_by write s

abbrev pub sources_text_by : (ℕ → Text) → List Source → Text
sources_text_by write [] = []
sources_text_by write (s ∷ ss) = source_text_by write s ++ flat_map (joined_text_by write) ss

-- ---- with numbers in decimal digits

abbrev pub span_text : Interval → Text
span_text i = span_text_by decimal i

abbrev pub interval_text : Interval → Text
interval_text i = interval_text_by decimal i

abbrev pub source_text : Source → Text
source_text s = source_text_by decimal s

abbrev pub joined_text : Source → Text
joined_text s = joined_text_by decimal s

abbrev pub sources_text : List Source → Text
sources_text ss = sources_text_by decimal ss

abbrev pub set_text : Gtids → Text
set_text s = sources_text (sources_of s)
