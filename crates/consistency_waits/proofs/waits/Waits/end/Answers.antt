-- The others stay ascending.
use Rattle.std.proofs.Common.{not, ap, ◌∙◌}
use Rattle.std.specs.Prelude.{◌==◌}
use Rattle.consistency_waits.specs.Holding.{Held, ascend}
use Rattle.consistency_waits.proofs.Ascending.{ascend_filter}
use Rattle.consistency_waits.proofs.waits.Waits.end.Goals as goal

pub invariant_of-self : goal.invariant_of-self
invariant_of-self c = ap ascend c.drop_session.ensures ∙ ascend_filter (λ (h : Held). not (h.session == c.args.session)) c.self.inside.holds.items c.self.invariant
