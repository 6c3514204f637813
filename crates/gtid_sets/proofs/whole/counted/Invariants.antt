use Rattle.std.proofs.Common.{◌≡◌, take}
use Rattle.gtid_sets.specs.Sets.{count_of}
use Rattle.gtid_sets.proofs.whole.counted.Given as goal

abbrev pub invariant-loop-run : goal.invariant-loop-run
invariant-loop-run l = l.count ≡ count_of (take l.run-index l.runs)
