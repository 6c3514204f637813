-- How a certifier stands for a history of the group.
use Rattle.std.specs.Prelude.{◌≡◌, true, List, [], ◌∷◌}
use Rattle.gr_ids.specs.declared.names.LastNumber.{LastNumber}
use Rattle.gr_ids.specs.Names.{inc_lt}
use Rattle.group_rules.specs.Events.{Life, Setup}
use Rattle.group_rules.specs.Certifier.{certifier}
use Rattle.certifier.specs.Certifying.{Certifying}

-- the certifier after the entries taken
abbrev pub certifying : Setup → Life → Certifying
certifying s l = record { group = s.limits.group; block = s.limits.block; certified = certifier s l }

-- each origin is above the one before it
abbrev pub NumbersAscend : List LastNumber → Type 0
NumbersAscend [] = Unit {0}
NumbersAscend (x ∷ []) = Unit {0}
NumbersAscend (x ∷ y ∷ ys) = (inc_lt x.inc y.inc ≡ true) × NumbersAscend (y ∷ ys)
