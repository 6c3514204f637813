-- What is left, put in one after another, gives the whole.
use Rattle.certifier.proofs.KeptLists.{Filling}
use Rattle.certifier.proofs.kept.KeptItems.of.Given as goal

abbrev pub invariant-loop-one : goal.invariant-loop-one
invariant-loop-one l = Filling l.fn.items l.kept l.one-iterator.rest.items
