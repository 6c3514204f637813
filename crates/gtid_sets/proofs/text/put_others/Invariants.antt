use Rattle.std.proofs.Common.{◌≡◌, ◌≤◌, ◌++◌, ◌-◌, length, drop}
use Rattle.std.specs.List.{flat_map}
use Rattle.gtid_sets.specs.Spelling.{sources_of}
use Rattle.gtid_sets.specs.Text.{joined_text}
use Rattle.gtid_sets.proofs.text.put_others.Given as goal

abbrev pub invariant-loop-at : goal.invariant-loop-at
invariant-loop-at l = record {
  within : l.at ≤ length l.runs;
  put : l.to.items ++ flat_map joined_text (sources_of (drop l.at l.runs)) ≡ l.initial.to.items ++ flat_map joined_text (sources_of l.runs);
}

abbrev pub decreases-loop-at : goal.decreases-loop-at
decreases-loop-at l = length l.runs - l.at
