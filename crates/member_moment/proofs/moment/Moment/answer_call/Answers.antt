-- A last answer ends the transaction, a row that is changed is answered so.
use Rattle.std.proofs.Common.{refl}
use Rattle.member_tables.proofs.Results.{on_ok}
use Rattle.member_moment.proofs.Answered.{answers_last, answers_on}
use Rattle.member_moment.proofs.moment.Moment.answer_call.Goals as goal

pub returns-then-ends-clause-rest : goal.returns-then-ends-clause-rest
returns-then-ends-clause-rest c = on_ok c.tell.result (answers_last c.args.self.now c.tell.new.self c.args.session c.args.answer c.args.ends c.if-ends.true) c.tell.ensures.rest

pub returns-clause-rest : goal.returns-clause-rest
returns-clause-rest c = answers_on c.args.self.now _ c.args.session c.args.answer c.args.ends c.if-ends.false refl c.in_ok-push.ensures.items
