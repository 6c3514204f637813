use Rattle.std.proofs.Common.{◌≡◌, ◌++◌, drop, map}
use Rattle.std.specs.List.{flat_map}
use Rattle.byte_forms.specs.Packs.{Keeps}
use Rattle.gtid_sets.specs.Spelling.{interval_bytes, interval_of}
use Rattle.gtid_sets.proofs.packing.put_source.Given as goal

abbrev pub invariant-loop-run : goal.invariant-loop-run
invariant-loop-run l = record {
  keeps : Keeps l.fn.to l.to;
  put : l.to ++ flat_map interval_bytes (map interval_of (drop l.run-index l.runs)) ≡ l.initial.to ++ flat_map interval_bytes (map interval_of l.runs);
}
