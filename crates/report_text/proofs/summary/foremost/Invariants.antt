use Rattle.std.proofs.Common.{◌≡◌, drop}
use Rattle.report_text.specs.Summaries.{foremost_of}
use Rattle.report_text.proofs.summary.foremost.Given as goal

abbrev pub invariant-loop-member : goal.invariant-loop-member
invariant-loop-member l = foremost_of l.best (drop l.member-index l.others) ≡ foremost_of l.first l.others
