use Rattle.std.proofs.Common.{◌≤◌, ◌-◌, length}
use Rattle.gtid_sets.specs.Places.{runs_before}
use Rattle.gtid_sets.proofs.search.runs_before.Given as goal

abbrev pub invariant-loop-low : goal.invariant-loop-low
invariant-loop-low l = record {
  low : l.low ≤ runs_before l.runs l.fn.gtid;
  high : runs_before l.runs l.fn.gtid ≤ l.high;
  within : l.high ≤ length l.runs;
}

abbrev pub decreases-loop-low : goal.decreases-loop-low
decreases-loop-low l = l.high - l.low
