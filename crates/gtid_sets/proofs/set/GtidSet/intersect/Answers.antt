use Rattle.gtid_sets.proofs.PartLemmas.{canonical_meet}
use Rattle.gtid_sets.proofs.set.GtidSet.intersect.Goals as goal

pub invariant_of-result : goal.invariant_of-result
invariant_of-result c = rw (c.in_ok-runs.ensures, c.deref.ensures.value, c.deref-2.ensures.value) (canonical_meet c.self.inside.runs.items c.other.inside.runs.items c.self.invariant c.other.invariant)
