-- Those so far are dropped.
use Rattle.certifier.proofs.Forgotten.{Dropping}
use Rattle.certifier.proofs.forgetting.drop_items.Given as goal

abbrev pub invariant-loop-item : goal.invariant-loop-item
invariant-loop-item l = Dropping l.gtid l.items l.initial.writers.entries l.item-index l.writers.entries
