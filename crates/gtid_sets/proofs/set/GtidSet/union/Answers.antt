use Rattle.gtid_sets.proofs.UnionLemmas.{canonical_union, runs_of_canonical}
use Rattle.gtid_sets.proofs.set.GtidSet.union.Goals as goal

pub invariant_of-result : goal.invariant_of-result
invariant_of-result c = rw (c.in_ok-runs.ensures, c.deref.ensures.value, c.deref-2.ensures.value) (canonical_union c.self.inside.runs.items c.other.inside.runs.items c.self.invariant (runs_of_canonical c.other.inside.runs.items c.other.invariant))
