use Rattle.std.proofs.Common.{◌≡◌}
use Rattle.gtid_sets.proofs.TakeLemmas.{IntervalsSoFar}
use Rattle.gtid_sets.proofs.taking.take_intervals.Given as goal

abbrev pub invariant-intervals : goal.invariant-intervals
invariant-intervals l = record {
  so_far : IntervalsSoFar l.source l.count l.initial.from.left l.initial.runs.items l._i l.low l.runs.items l.from.left;
  total : l.from.total ≡ l.initial.from.total;
}
