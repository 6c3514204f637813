-- One more is put back; at the end all are.
use Rattle.certifier.proofs.PuttingBack.{backing_begun, backing_next, backing_end}
use Rattle.certifier.proofs.writing.put_all_back.Goals as goal

pub loop-at-init : goal.loop-at-init
loop-at-init c = backing_begun c.args.written.now c.args.before.now c.args.items.now.entries

pub loop-at-preserved : goal.loop-at-preserved
loop-at-preserved c =
    backing_next c.args.written.now c.args.before.now c.args.items.now.entries c.loop-at.at c.loop-at.items.entries c.put_back.new.map.entries c.index-written-at.result c.index-before-at.result
    c.loop-at-test.true c.index-written-at.is c.index-before-at.is c.put_back.ensures.back c.put_back.ensures.ordered c.loop-at.invariant

pub returns-clause-back : goal.returns-clause-back
returns-clause-back c = backing_end c.args.written.now c.args.before.now c.args.items.now.entries c.loop-at.at c.loop-at.items.entries c.loop-at-test.false c.loop-at.invariant

pub returns-clause-ordered : goal.returns-clause-ordered
returns-clause-ordered c = c.loop-at.invariant.ordered
