use Rattle.std.proofs.Common.{◌≡◌, ◌++◌, drop}
use Rattle.std.specs.Prelude.{flat_map}
use Rattle.report_text.specs.Summaries.{member_line}
use Rattle.report_text.proofs.summary.put_member_lines.Given as goal

abbrev pub invariant-loop-member : goal.invariant-loop-member
invariant-loop-member l =
    l.to ++ flat_map member_line (drop l.member-index l.members)
    ≡ l.initial.to ++ flat_map member_line l.members
