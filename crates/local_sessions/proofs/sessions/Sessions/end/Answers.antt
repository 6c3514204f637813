-- What is left ascends.
use Rattle.std.proofs.Common.{not, ap, ◌∙◌}
use Rattle.local_sessions.specs.Standing.{Session, ascend, is_of}
use Rattle.local_sessions.proofs.Order.{ascend_filter}
use Rattle.local_sessions.proofs.sessions.Sessions.end.Goals as goal

pub invariant_of-self : goal.invariant_of-self
invariant_of-self c = ap ascend c.drop_session.ensures ∙ ascend_filter (λ (x : Session). not (is_of c.args.session x)) c.self.inside.list.items c.self.invariant
