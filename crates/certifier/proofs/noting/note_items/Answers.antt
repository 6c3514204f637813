-- One more is noted; at the end all are.
use Rattle.certifier.proofs.NotingItems.{noting_begun, noting_next}
use Rattle.certifier.proofs.noting.note_items.Goals as goal

pub loop-item-init : goal.loop-item-init
loop-item-init c = noting_begun c.args.gtid c.args.items.now c.args.written.now.entries

pub loop-item-preserved : goal.loop-item-preserved
loop-item-preserved c = noting_next c.args.gtid c.args.items.now c.args.written.now.entries c.loop-item.item-index c.loop-item.written.entries c.note.new.written.entries c.item-item.result
    c.loop-item-test.true c.item-item.is c.note.ensures.keeps c.in_ok-note.ensures.ok c.loop-item.invariant
