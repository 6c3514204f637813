use Rattle.std.proofs.Common.{sym}
use Rattle.script_text.proofs.Ranges.{line_in_range}
use Rattle.script_text.proofs.grammar.parse_line.Goals as goal

pub returns-in-Ok-Some-clause-range : goal.returns-in-Ok-Some-clause-range
returns-in-Ok-Some-clause-range c =
    let read = rw c.in-Ok-Some.field-0-is at c.in-Ok-Some.ensures in
    line_in_range c.args.number c.args.line.now _ c.requires.first c.requires.last (sym read)
