-- Those so far are noted.
use Rattle.certifier.proofs.NotingItems.{Noting}
use Rattle.certifier.proofs.noting.note_items.Given as goal

abbrev pub invariant-loop-item : goal.invariant-loop-item
invariant-loop-item l = Noting l.gtid l.items l.initial.written.entries l.item-index l.written.entries
