-- No own one is pending, and the first of the others isn't done.
use Rattle.std.proofs.Common.{ap, sym, ◌∙◌}
use Rattle.apply_queue.specs.Queues.{front_waits}
use Rattle.member_parts.proofs.Resting.{front_rests, none_is_left, none_may_go}
use Rattle.member_parts.proofs.parts.MemberParts.commits_none.Goals as goal

pub returns-clause-none : goal.returns-clause-none
returns-clause-none c = λ t s me l w f. none_may_go s me l c.args.self.now (none_is_left _ (sym c.is_empty.ensures ∙ c.if-not-is_empty.false))
    (front_rests c.args.self.now.remotes.queue (ap front_waits (sym c.queue.ensures) ∙ (sym c.front_waits.ensures ∙ t))) w f
