use Rattle.gtid_sets.proofs.SourceLemmas.{set_form}
use Rattle.gtid_sets.proofs.set.GtidSet.read_bytes.Goals as goal

pub invariant_of-result : goal.invariant_of-result
invariant_of-result c = (set_form.spells _ _ _ c.in_ok-runs.ensures.ok.value).0.0

pub returns-clause-fits : goal.returns-clause-fits
returns-clause-fits c = (set_form.spells _ _ _ c.in_ok-runs.ensures.ok.value).0.1
