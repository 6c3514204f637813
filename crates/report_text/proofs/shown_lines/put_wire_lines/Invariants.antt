use Rattle.std.proofs.Common.{◌≡◌, ◌++◌, drop, map}
use Rattle.group_rules.specs.Texts.{wire_text}
use Rattle.report_text.specs.Lines.{output_lines}
use Rattle.report_text.proofs.shown_lines.put_wire_lines.Given as goal

abbrev pub invariant-loop-message : goal.invariant-loop-message
invariant-loop-message l =
    l.to ++ output_lines l.number (map wire_text (drop l.message-index l.messages))
    ≡ l.initial.to ++ output_lines l.number (map wire_text l.messages)
