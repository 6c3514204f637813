-- None is prepared, or each entry is sent.
use Rattle.std.proofs.Common.{ap, sym, ◌∙◌}
use Rattle.apply_queue.specs.Queues.{front_waits}
use Rattle.member_parts.proofs.Resting.{front_rests, none_prepared, none_unsent}
use Rattle.member_parts.proofs.parts.MemberParts.prepares_none.Goals as goal

pub returns-then-front_waits-clause-none : goal.returns-then-front_waits-clause-none
returns-then-front_waits-clause-none c = λ t s me l w f. none_prepared s me l c.args.self.now
    (front_rests c.args.self.now.remotes.queue (ap front_waits (sym c.queue.ensures) ∙ (sym c.front_waits.ensures ∙ c.if-front_waits.true))) w f

pub returns-clause-none : goal.returns-clause-none
returns-clause-none c = λ t s me l w f. none_unsent s me l c.args.self.now (sym c.is_subset.ensures ∙ t) w f
