use Rattle.std.proofs.Common.{◌≡◌, ◌≤◌, ◌+◌, ◌-◌, length, drop}
use Rattle.gtid_sets.specs.Spelling.{sources_of}
use Rattle.gtid_sets.proofs.packing.count_sources.Given as goal

abbrev pub invariant-loop-at : goal.invariant-loop-at
invariant-loop-at l = record {
  within : l.at ≤ length l.runs;
  few : l.count ≤ l.at;
  counted : l.count + length (sources_of (drop l.at l.runs)) ≡ length (sources_of l.runs);
}

abbrev pub decreases-loop-at : goal.decreases-loop-at
decreases-loop-at l = length l.runs - l.at
