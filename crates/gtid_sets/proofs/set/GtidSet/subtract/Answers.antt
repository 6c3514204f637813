use Rattle.gtid_sets.proofs.PartLemmas.{canonical_minus}
use Rattle.gtid_sets.proofs.set.GtidSet.subtract.Goals as goal

pub invariant_of-result : goal.invariant_of-result
invariant_of-result c = rw (c.in_ok-runs.ensures, c.deref.ensures.value, c.deref-2.ensures.value) (canonical_minus c.self.inside.runs.items c.other.inside.runs.items c.self.invariant c.other.invariant)
