use Rattle.std.proofs.Common.{◌≡◌, ◌++◌, drop, map}
use Rattle.std.specs.List.{flat_map}
use Rattle.gtid_sets.specs.Spelling.{interval_of}
use Rattle.gtid_sets.specs.Text.{interval_text}
use Rattle.gtid_sets.proofs.text.put_source.Given as goal

abbrev pub invariant-loop-run : goal.invariant-loop-run
invariant-loop-run l =
    l.to.items ++ flat_map interval_text (map interval_of (drop l.run-index l.runs)) ≡ l.initial.to.items ++ flat_map interval_text (map interval_of l.runs)
