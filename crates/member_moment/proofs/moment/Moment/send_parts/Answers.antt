-- One part more.
use Rattle.std.proofs.Common.{sym, subst, ◌∙◌}
use Rattle.member_moment.proofs.Sending.{Parted, all_are_sent, parted_more}
use Rattle.member_moment.proofs.moment.Moment.send_parts.Goals as goal

pub loop-part-preserved : goal.loop-part-preserved
loop-part-preserved c =
    parted_more c.args.self.now c.loop-part.self c.send_part.new.self c.args.parts.items c.loop-part.yielded c.next.new.self.rest.items c.in-Some.part
    (subst (Parted c.args.self.now c.loop-part.self c.args.parts.items c.loop-part.yielded) c.in-Some.ensures.steps.0 c.loop-part.invariant)
    c.in_ok-send_part.ensures.rest c.in_ok-send_part.ensures.others

pub returns-clause-rest : goal.returns-clause-rest
returns-clause-rest c =
    let left = c.loop-part.part-iterator.rest in
    all_are_sent c.args.self.now c.loop-part.self c.args.parts.items c.loop-part.yielded left.items c.loop-part.invariant (sym left.ok.0 ∙ c.in-None.ensures.steps.0)
