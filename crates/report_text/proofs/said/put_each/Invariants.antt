use Rattle.std.proofs.Common.{◌≡◌, ◌++◌, drop}
use Rattle.std.specs.Prelude.{flat_map}
use Rattle.group_rules.specs.Texts.{said_texts}
use Rattle.report_text.specs.Lines.{output_lines}
use Rattle.report_text.proofs.said.put_each.Given as goal

abbrev pub invariant-loop-one : goal.invariant-loop-one
invariant-loop-one l =
    l.to ++ output_lines l.number (flat_map said_texts (drop l.one-index l.said))
    ≡ l.initial.to ++ output_lines l.number (flat_map said_texts l.said)
