use Rattle.std.proofs.Common.{◌≡◌}
use Rattle.gtid_sets.proofs.TakeLemmas.{SourcesSoFar}
use Rattle.gtid_sets.proofs.taking.take_set.Given as goal

abbrev pub invariant-sources : goal.invariant-sources
invariant-sources l = record {
  so_far : SourcesSoFar l.count l.initial.from.left l._i l.before l.runs.items l.from.left;
  total : l.from.total ≡ l.initial.from.total;
}
