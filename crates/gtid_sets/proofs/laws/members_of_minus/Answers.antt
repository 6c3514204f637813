use Rattle.gtid_sets.proofs.LawLemmas.{all_minus}
use Rattle.gtid_sets.proofs.PartLemmas.{canonical_minus}
use Rattle.gtid_sets.proofs.laws.members_of_minus.Goals as goal

pub returns-clause-members : goal.returns-clause-members
returns-clause-members c = all_minus

pub returns-clause-canonical : goal.returns-clause-canonical
returns-clause-canonical c = canonical_minus
