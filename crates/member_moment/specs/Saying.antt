-- Replies.
use Rattle.std.specs.Prelude.{Bool, true, false}
use Rattle.group_rules.specs.declared.marks.Reply.{Reply}
use Rattle.group_rules.specs.declared.marks.Reply.TheVariants.{Asked}

-- a donor is asked
abbrev pub asks_a_donor : Reply → Bool
asks_a_donor (Asked d) = true
asks_a_donor r = false
