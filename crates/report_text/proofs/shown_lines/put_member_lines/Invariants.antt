use Rattle.std.proofs.Common.{◌≡◌, ◌++◌, drop}
use Rattle.group_rules.specs.Texts.{member_text}
use Rattle.report_text.specs.Shown.{each_line}
use Rattle.report_text.proofs.shown_lines.put_member_lines.Given as goal

abbrev pub invariant-loop-member : goal.invariant-loop-member
invariant-loop-member l =
    l.to ++ each_line l.number l.inc member_text (drop l.member-index l.members)
    ≡ l.initial.to ++ each_line l.number l.inc member_text l.members
