-- The tables end it, and the mark tells it.
use Rattle.std.proofs.Common.{refl, ap, ◌∙◌, [], ◌∷◌, ◌++◌}
use Rattle.group_rules.specs.declared.answers.Answer.TheVariants.{HoldTimeout}
use Rattle.group_rules.specs.declared.marks.Mark.TheVariants.{Answered as AnsweredMark}
use Rattle.member_moment.proofs.Aside.{answered_last}
use Rattle.member_moment.proofs.moment.Moment.timed_out.Goals as goal

pub returns-clause-ended : goal.returns-clause-ended
returns-clause-ended c = λ base a h b. record {
  aside = answered_last base a c.args.self.now (record c.args.self.now { tables = c.timed_out-answer.new.self; marks = c.push.new.self }) refl c.args.session (HoldTimeout c.args.limit) (c.in_ok-push.ensures.items ∙ ap (λ v. c.args.self.now.marks.items ++ AnsweredMark c.args.session v ∷ []) c.timed_out-answer.ensures.answer) b.aside;
  tables = c.timed_out-answer.ensures.ended a b.tables;
}
