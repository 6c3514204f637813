-- One more is dropped; at the end all are.
use Rattle.certifier.proofs.Forgotten.{dropping_begun, dropping_next}
use Rattle.certifier.proofs.forgetting.drop_items.Goals as goal

pub loop-item-init : goal.loop-item-init
loop-item-init c = dropping_begun c.args.gtid c.args.items.now c.args.writers.now.entries

pub loop-item-preserved : goal.loop-item-preserved
loop-item-preserved c = dropping_next c.args.gtid c.args.items.now c.args.writers.now.entries c.loop-item.item-index c.loop-item.writers.entries c.drop_item.new.writers.entries c.item-item.result
    c.loop-item-test.true c.item-item.is c.drop_item.ensures.dropped c.drop_item.ensures.ordered c.loop-item.invariant
