-- A history in which numbers and what own values hold stay within the ranges of their forms.
use Rattle.std.specs.Prelude.{Option, Some, None, [], ◌∷◌}
use Rattle.gtid_sets.specs.Canonical.{IsNumber}
use Rattle.txn_forms.specs.declared.body.Body.{Body}
use Rattle.txn_forms.specs.Bodies.{IsBody, IsHeld}
use Rattle.group_rules.specs.declared.marks.Effect.{Effect}
use Rattle.group_rules.specs.declared.marks.Effect.TheVariants.{Positive}
use Rattle.group_rules.specs.Events.{Did, Took, Made, Life}

-- a GTID that is given has a number that a GTID may have
abbrev pub IsNumbered : Effect → Type 0
IsNumbered (Positive g) = IsNumber g.number
IsNumbered e = Unit {0}

-- what an own value is to hold can be spelt and read back
abbrev pub IsSpelt : Option Body → Type 0
IsSpelt None = Unit {0}
IsSpelt (Some b) = IsBody b × IsHeld b

abbrev pub IsRangedDid : Did → Type 0
IsRangedDid (Took e) = IsNumbered e.effect
IsRangedDid (Made v holds) = IsSpelt holds
IsRangedDid d = Unit {0}

abbrev pub IsRanged : Life → Type 0
IsRanged [] = Unit {0}
IsRanged (d ∷ l) = IsRangedDid d × IsRanged l
