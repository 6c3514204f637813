-- The writer so far, with those of the items that are left.
use Rattle.std.proofs.Common.{◌≡◌, drop}
use Rattle.certifier.specs.Blockers.{later_writer}
use Rattle.certifier.proofs.FirstBlocker.{best}
use Rattle.certifier.proofs.blocking.blocker.Given as goal

abbrev pub invariant-loop-item : goal.invariant-loop-item
invariant-loop-item l = later_writer l.last (best l.txn.snapshot l.items.entries (drop l.item-index l.written)) ≡ best l.txn.snapshot l.items.entries l.written
