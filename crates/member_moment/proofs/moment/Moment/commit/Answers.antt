-- It is answered, or a body is sent.
use Rattle.std.proofs.Common.{refl, subst, ◌∙◌}
use Rattle.group_rules.specs.declared.requests.Request.TheVariants.{Commit}
use Rattle.local_sessions.specs.declared.commit_step.CommitStep.{CommitStep}
use Rattle.member_tables.specs.Calling.{CommitsTo, IsSendable}
use Rattle.member_moment.proofs.CommitAsked.{does_commit}
use Rattle.member_moment.proofs.Called.{does_call}
use Rattle.member_moment.proofs.moment.Moment.commit.Goals as goal

pub returns-in-Said : goal.returns-in-Said
returns-in-Said c =
    does_call c.args.self.now c.answer_call.new.self c.commit_call.new.self c.args.session Commit c.in-Said.answer c.ends_commit-ends.result c.answer_call.result
    refl c.ends_commit-ends.ensures (c.in_ok-answer.ensures.answer ∙ c.in-Said.is)
    (λ a f. subst (λ (w : CommitStep). CommitsTo w c.args.session a c.commit_call.new.self) c.in-Said.is (c.in_ok-answer.ensures.called a f))
    c.answer_call.ensures.rest c.answer_call.ensures.tables

pub returns-in-Ready : goal.returns-in-Ready
returns-in-Ready c =
    does_commit c.args.self.now c.send_txn.new.self c.commit_call.new.self c.args.session c.in-Ready.body c.send_txn.result
    (c.in_ok-answer.ensures.answer ∙ c.in-Ready.is)
    (λ a f. subst (λ (w : CommitStep). CommitsTo w c.args.session a c.commit_call.new.self) c.in-Ready.is (c.in_ok-answer.ensures.called a f))
    (λ a f. subst (λ (w : CommitStep). IsSendable w c.args.session a) c.in-Ready.is (c.in_ok-answer.ensures.spelt a f))
    c.send_txn.ensures
