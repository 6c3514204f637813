-- The texts of lines that end a run.
use Rattle.std.specs.Prelude.{ℕ, codes}
use Rattle.group_rules.specs.Script.{Play}
use Rattle.group_rules.specs.Texts.{Text, closed_or_said}
use Rattle.report_text.specs.Lines.{output_line, output_lines}

abbrev pub bad_text : ℕ → Text
bad_text number = output_line number (codes "bad line")

abbrev pub lines_text : ℕ → Text
lines_text number = output_line number (codes "limit lines 1000000")

abbrev pub length_text : ℕ → Text
length_text number = output_line number (codes "limit line 65536")

-- the text of a line after whose step this is the play
abbrev pub play_text : ℕ → Play → Text
play_text number z = output_lines number (closed_or_said z.closed z)
