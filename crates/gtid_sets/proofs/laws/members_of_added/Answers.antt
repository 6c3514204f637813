use Rattle.gtid_sets.proofs.LawLemmas.{all_with_gtid}
use Rattle.gtid_sets.proofs.PutLemmas.{canonical_with_gtid}
use Rattle.gtid_sets.proofs.laws.members_of_added.Goals as goal

pub returns-clause-members : goal.returns-clause-members
returns-clause-members c = all_with_gtid

pub returns-clause-canonical : goal.returns-clause-canonical
returns-clause-canonical c = λ s g hs hg n. canonical_with_gtid s g hg n hs
