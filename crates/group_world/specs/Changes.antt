-- Statements that were answered Changed.
use Rattle.std.specs.Prelude.{Bool, true, false}
use Rattle.group_rules.specs.declared.answers.Answer.{Answer}
use Rattle.group_rules.specs.declared.answers.Answer.TheVariants.{Changed}
use Rattle.group_rules.specs.declared.marks.Mark.{Mark}
use Rattle.group_rules.specs.declared.marks.Mark.TheVariants.{Answered}
use Rattle.group_rules.specs.declared.said.Said.{Said}
use Rattle.group_rules.specs.declared.said.Said.TheVariants.{Marked}

abbrev pub answers_changed : Answer → Bool
answers_changed Changed = true
answers_changed x = false

abbrev pub marks_changed : Mark → Bool
marks_changed (Answered s x) = answers_changed x
marks_changed m = false

abbrev pub said_changed : Said → Bool
said_changed (Marked i m) = marks_changed m
said_changed x = false
