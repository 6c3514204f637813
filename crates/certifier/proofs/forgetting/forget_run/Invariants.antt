-- The writers so far are forgotten; those that are left are fewer.
use Rattle.std.proofs.Common.{length}
use Rattle.certifier.proofs.Forgotten.{Emptying}
use Rattle.certifier.proofs.forgetting.forget_run.Given as goal

abbrev pub invariant-loop-gtid : goal.invariant-loop-gtid
invariant-loop-gtid l = Emptying l.run l.initial.writers.entries l.writers.entries l.written.entries

abbrev pub decreases-loop-gtid : goal.decreases-loop-gtid
decreases-loop-gtid l = length l.written.entries
