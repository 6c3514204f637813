-- Its answer says what is done besides.
use Rattle.std.proofs.Common.{refl}
use Rattle.group_rules.specs.declared.requests.Request.TheVariants.{Rollback}
use Rattle.member_moment.proofs.Called.{does_call}
use Rattle.member_moment.proofs.moment.Moment.roll_back.Goals as goal

pub returns : goal.returns
returns c =
    does_call c.args.self.now c.answer_call.new.self c.rollback.new.self c.args.session (Rollback) c.in_ok-answer.answer c.is_last-ends.result c.answer_call.result
    refl c.is_last-ends.ensures c.in_ok-answer.ensures.answer c.in_ok-answer.ensures.called c.answer_call.ensures.rest c.answer_call.ensures.tables
