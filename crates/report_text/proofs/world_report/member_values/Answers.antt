use Rattle.report_text.proofs.Values.{values_more}
use Rattle.report_text.proofs.world_report.member_values.Goals as goal

pub loop-member-preserved : goal.loop-member-preserved
loop-member-preserved c =
    values_more c.loop-member.values.items c.push.new.self.items c.in_ok-member_value.field-0
    c.args.members.now c.loop-member.member-index c.member-item.result c.loop-member-test.true c.member-item.is
    c.in_ok-member_value.ensures c.loop-member.invariant c.in_ok-push.ensures.items
