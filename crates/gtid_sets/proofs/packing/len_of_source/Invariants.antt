use Rattle.std.proofs.Common.{◌≡◌, ◌+◌, drop}
use Rattle.gtid_sets.specs.Places.{runs_of_source}
use Rattle.gtid_sets.proofs.packing.len_of_source.Given as goal

abbrev pub invariant-loop-i : goal.invariant-loop-i
invariant-loop-i l = l.i + runs_of_source l.source (drop l.i l.runs) ≡ runs_of_source l.source l.runs
