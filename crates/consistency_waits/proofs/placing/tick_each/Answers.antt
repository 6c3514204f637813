-- One more is changed, and at the end all are.
use Rattle.std.proofs.Common.{refl, ◌∙◌}
use Rattle.consistency_waits.specs.Holding.{ticked}
use Rattle.consistency_waits.proofs.EachOne.{one_more, all_changed}
use Rattle.consistency_waits.proofs.placing.tick_each.Goals as goal

pub loop-held-init : goal.loop-held-init
loop-held-init c = refl

pub loop-held-preserved : goal.loop-held-preserved
loop-held-preserved c = rw (c.tick_one.ensures, c.loop-held.invariant) (one_more ticked c.loop-held.held-index c.args.holds.now _ c.loop-held-test.true)

pub returns : goal.returns
returns c = c.loop-held.invariant ∙ all_changed ticked c.loop-held.held-index c.args.holds.now c.loop-held-test.false
