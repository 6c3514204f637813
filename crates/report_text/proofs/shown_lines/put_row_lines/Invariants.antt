use Rattle.std.proofs.Common.{◌≡◌, ◌++◌, drop}
use Rattle.report_text.specs.Shown.{each_line, row_shown}
use Rattle.report_text.proofs.shown_lines.put_row_lines.Given as goal

abbrev pub invariant-loop-row : goal.invariant-loop-row
invariant-loop-row l =
    l.to ++ each_line l.number l.inc row_shown (drop l.row-index l.rows)
    ≡ l.initial.to ++ each_line l.number l.inc row_shown l.rows
