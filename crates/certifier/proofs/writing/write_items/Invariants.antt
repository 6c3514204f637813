-- Those so far are written, and give the whole with those that are left.
use Rattle.certifier.proofs.WritingItems.{Writing}
use Rattle.certifier.proofs.writing.write_items.Given as goal

abbrev pub invariant-loop-at : goal.invariant-loop-at
invariant-loop-at l = Writing l.writer l.written l.initial.items.entries l.at l.items.entries
