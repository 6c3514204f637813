use Rattle.std.proofs.Common.{◌≡◌, ◌≤◌, ◌++◌, ◌<◌, ◌^◌, ◌-◌, length, drop}
use Rattle.std.specs.List.{flat_map, AllByRecursion}
use Rattle.byte_forms.specs.Packs.{Keeps}
use Rattle.gtid_sets.specs.Spelling.{sources_of, source_bytes}
use Rattle.gtid_sets.proofs.packing.put_set.Given as goal

abbrev pub invariant-loop-at : goal.invariant-loop-at
invariant-loop-at l = record {
  keeps : Keeps l.fn.to l.to;
  within : l.at ≤ length l.runs;
  bytes : l.to ++ flat_map source_bytes (sources_of (drop l.at l.runs)) ≡ l.initial.to ++ flat_map source_bytes (sources_of l.runs);
  counts : AllByRecursion (λ x. length x.intervals < 2 ^ 32) (sources_of (drop l.at l.runs)) → AllByRecursion (λ x. length x.intervals < 2 ^ 32) (sources_of l.runs);
}

abbrev pub decreases-loop-at : goal.decreases-loop-at
decreases-loop-at l = length l.runs - l.at
