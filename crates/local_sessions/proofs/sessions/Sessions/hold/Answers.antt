-- The session isn't there yet, and goes to its place.
use Rattle.std.proofs.Common.{ap, ◌∙◌}
use Rattle.local_sessions.specs.Standing.{ascend, session_in}
use Rattle.local_sessions.proofs.Order.{ascend_with}
use Rattle.local_sessions.proofs.sessions.Sessions.hold.Goals as goal

pub invariant_of-self-2 : goal.invariant_of-self-2
invariant_of-self-2 c = ap ascend c.in_ok-put_session.ensures.ok ∙ ascend_with c.self.inside.list.items _ c.self.invariant (ap (λ l. session_in l c.args.session) c.self.view_is ∙ c.requires)
