use Rattle.gtid_sets.proofs.LawLemmas.{all_union}
use Rattle.gtid_sets.proofs.UnionLemmas.{canonical_union, runs_of_canonical}
use Rattle.gtid_sets.proofs.laws.members_of_union.Goals as goal

pub returns-clause-members : goal.returns-clause-members
returns-clause-members c = all_union

pub returns-clause-canonical : goal.returns-clause-canonical
returns-clause-canonical c = λ a b ha hb. canonical_union a b ha (runs_of_canonical b hb)
