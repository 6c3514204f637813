use Rattle.std.proofs.Common.{◌≡◌, ◌++◌, drop}
use Rattle.report_text.specs.Shown.{each_line, writer_shown}
use Rattle.report_text.proofs.shown_lines.put_writer_lines.Given as goal

abbrev pub invariant-loop-writer : goal.invariant-loop-writer
invariant-loop-writer l =
    l.to ++ each_line l.number l.inc writer_shown (drop l.writer-index l.writers)
    ≡ l.initial.to ++ each_line l.number l.inc writer_shown l.writers
