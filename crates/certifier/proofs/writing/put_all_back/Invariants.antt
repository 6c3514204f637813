-- Those so far are put back.
use Rattle.certifier.proofs.PuttingBack.{Backing}
use Rattle.certifier.proofs.writing.put_all_back.Given as goal

abbrev pub invariant-loop-at : goal.invariant-loop-at
invariant-loop-at l = Backing l.written l.before l.initial.items.entries l.at l.items.entries
