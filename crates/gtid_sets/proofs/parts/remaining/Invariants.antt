use Rattle.std.proofs.Common.{◌≡◌, ◌++◌, drop}
use Rattle.gtid_sets.specs.Sets.{minus}
use Rattle.gtid_sets.proofs.parts.remaining.Given as goal

abbrev pub invariant-loop-run : goal.invariant-loop-run
invariant-loop-run l = l.runs.items ++ minus (drop l.run-index l.a) (drop l.j l.b) ≡ minus l.a l.b
