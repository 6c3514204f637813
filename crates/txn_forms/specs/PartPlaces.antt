-- Where an origin's parts stand among open parts that ascend by origin.
use Rattle.std.specs.Prelude.{ℕ, zero, suc, Bool, true, false, Option, Some, None, List, [], ◌∷◌}
use Rattle.std.specs.List.{slice_get}
use Rattle.gr_ids.specs.declared.names.Inc.{Inc}
use Rattle.gr_ids.specs.Names.{inc_eq, inc_lt}
use Rattle.gr_ids.specs.declared.names.OpenParts.{OpenParts}

-- how many stand before those of the origin
abbrev pub parts_before : List OpenParts → Inc → ℕ
parts_before [] o = 0
parts_before (p ∷ ps) o = elim (inc_lt p.origin o) [ true ↦ suc (parts_before ps o) | false ↦ 0 ]

abbrev pub is_of : Option OpenParts → Inc → Bool
is_of None o = false
is_of (Some p) o = inc_eq p.origin o

-- whether those at a place are the origin's
abbrev pub has_parts : List OpenParts → ℕ → Inc → Bool
has_parts ps at o = is_of (slice_get ps at) o
