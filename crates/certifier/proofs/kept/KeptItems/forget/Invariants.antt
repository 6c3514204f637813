-- The runs so far are forgotten.
use Rattle.certifier.proofs.Forgotten.{Shedding}
use Rattle.certifier.proofs.kept.KeptItems.forget.Given as goal

abbrev pub invariant-loop-run : goal.invariant-loop-run
invariant-loop-run l = Shedding l.runs l.initial.self-inside.writers.entries l.run-index l.self-inside.writers.entries l.self-inside.written.entries
