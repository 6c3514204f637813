use Rattle.std.proofs.Common.{◌≡◌, ◌+◌, ◌≤◌, List, length}
use Rattle.std.specs.List.{AllByRecursion}
use Rattle.group_rules.specs.Script.{Play}
use Rattle.report_text.specs.declared.summary.Verdict.{Verdict}
use Rattle.script_text.specs.Ranges.{IsInRange}
use Rattle.script_run.specs.Making.{ending_of, made_ending}
use Rattle.script_run.specs.Standing.{StandsMade, steps_made}
use Rattle.script_run.proofs.make.say_made.Given as goal

abbrev pub invariant-loop-line : goal.invariant-loop-line
invariant-loop-line l = record {
  play : Play;
  verdicts : List Verdict;
  stands : StandsMade l.maker play verdicts;
  same : ending_of play verdicts l.line-iterator.rest.items ≡ made_ending l.n l.from;
  range : AllByRecursion IsInRange l.line-iterator.rest.items;
  steps : steps_made l.maker + length l.line-iterator.rest.items ≤ 20002;
}
