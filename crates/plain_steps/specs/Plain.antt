-- What no step leaves: a beginning, and the answer Changed but with the change.
use Rattle.std.specs.Prelude.{[], ◌∷◌}
use Rattle.group_rules.specs.declared.answers.Answer.{Answer}
use Rattle.group_rules.specs.declared.answers.Answer.TheVariants.{Changed as IsChanged}
use Rattle.group_rules.specs.Events.{Answered, Did, Founds, Life, Starts}

abbrev pub IsPlainAnswer : Answer → Type 0
IsPlainAnswer IsChanged = ⊥
IsPlainAnswer x = Unit {0}

abbrev pub IsPlain : Did → Type 0
IsPlain Founds = ⊥
IsPlain (Starts x) = ⊥
IsPlain (Answered s x) = IsPlainAnswer x
IsPlain d = Unit {0}

abbrev pub ArePlain : Life → Type 0
ArePlain [] = Unit {0}
ArePlain (d ∷ l) = IsPlain d × ArePlain l
