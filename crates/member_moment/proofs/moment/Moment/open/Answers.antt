-- It is held, or answered.
use Rattle.std.proofs.Common.{ap, ◌∙◌}
use Rattle.local_sessions.specs.declared.commit_step.CommitStep.TheVariants.{Said}
use Rattle.member_moment.proofs.Opened.{does_answer_begin, does_open}
use Rattle.member_moment.proofs.moment.Moment.open.Goals as goal

pub returns-in-Held : goal.returns-in-Held
returns-in-Held c =
    does_open c.args.self.now c.hold.new.self c.begin.new.self c.args.session c.args.level c.args.limit c.state-state.result c.hold.result
    c.state-state.ensures (c.in_ok-answer.ensures.answer ∙ ap Said c.in-Held.is) c.in_ok-answer.ensures.called c.hold.ensures.rest c.hold.ensures.tables

pub returns-in_default : goal.returns-in_default
returns-in_default c =
    does_answer_begin c.args.self.now c.answer_call.new.self c.begin.new.self c.args.session c.args.level c.args.limit c.in_ok-answer.answer c.is_last-ends.result c.answer_call.result
    c.in_default.not-Held c.is_last-ends.ensures c.in_ok-answer.ensures.answer c.in_ok-answer.ensures.called c.answer_call.ensures.rest c.answer_call.ensures.tables
