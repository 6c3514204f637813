-- How the told sets stand in a map by incarnation.
use Rattle.std.specs.Prelude.{◌≡◌, true, List, [], ◌∷◌}
use Rattle.gr_ids.specs.Names.{inc_lt}
use Rattle.gr_ids.specs.declared.names.Inc.{Inc}
use Rattle.gtid_sets.specs.Sets.{Gtids}
use Rattle.gtid_sets.specs.declared.told.ToldSet.{ToldSet}

-- an incarnation has told this set
abbrev pub told_in : Inc × Gtids → ToldSet
told_in e = record { inc = e.0; set = e.1 }

-- each incarnation is above the one before it
abbrev pub ToldAscend : List ToldSet → Type 0
ToldAscend [] = Unit {0}
ToldAscend (x ∷ []) = Unit {0}
ToldAscend (x ∷ y ∷ ys) = (inc_lt x.inc y.inc ≡ true) × ToldAscend (y ∷ ys)
