use Rattle.gtid_sets.proofs.LawLemmas.{all_meet}
use Rattle.gtid_sets.proofs.PartLemmas.{canonical_meet}
use Rattle.gtid_sets.proofs.laws.members_of_meet.Goals as goal

pub returns-clause-members : goal.returns-clause-members
returns-clause-members c = all_meet

pub returns-clause-canonical : goal.returns-clause-canonical
returns-clause-canonical c = canonical_meet
