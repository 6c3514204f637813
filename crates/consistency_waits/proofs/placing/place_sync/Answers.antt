-- One more is changed, and at the end all are.
use Rattle.std.proofs.Common.{refl, ◌∙◌}
use Rattle.consistency_waits.specs.Holding.{placed}
use Rattle.consistency_waits.proofs.EachOne.{one_more, all_changed}
use Rattle.consistency_waits.proofs.placing.place_sync.Goals as goal

pub loop-held-init : goal.loop-held-init
loop-held-init c = refl

pub loop-held-preserved : goal.loop-held-preserved
loop-held-preserved c = rw (c.place_one.ensures, c.loop-held.invariant) (one_more (placed c.args.sync c.args.place) c.loop-held.held-index c.args.holds.now _ c.loop-held-test.true)

pub returns : goal.returns
returns c = c.loop-held.invariant ∙ all_changed (placed c.args.sync c.args.place) c.loop-held.held-index c.args.holds.now c.loop-held-test.false
