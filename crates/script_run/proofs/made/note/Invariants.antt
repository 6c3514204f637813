use Rattle.std.proofs.Common.{◌≡◌, ◌++◌, drop}
use Rattle.report_text.specs.Summaries.{verdicts}
use Rattle.script_run.proofs.made.note.Given as goal

abbrev pub invariant-loop-one : goal.invariant-loop-one
invariant-loop-one l = l.verdicts.items ++ verdicts (drop l.one-index l.said) ≡ l.initial.verdicts.items ++ verdicts l.said
