-- What is left ascends.
use Rattle.std.proofs.Common.{◌∙◌, ap, not}
use Rattle.consistency_waits.specs.Holding.{Held, ascend, is_due}
use Rattle.consistency_waits.proofs.Ascending.{ascend_filter}
use Rattle.consistency_waits.proofs.waits.Waits.release.Goals as goal

pub invariant_of-self : goal.invariant_of-self
invariant_of-self c = ap ascend c.keep_others.ensures ∙ ascend_filter (λ (h : Held). not (is_due c.args.now.now.pending h)) c.self.inside.holds.items c.self.invariant
