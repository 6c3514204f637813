use Rattle.gtid_sets.proofs.LawLemmas.{subset_has, has_subset}
use Rattle.gtid_sets.proofs.laws.members_of_subset.Goals as goal

pub returns : goal.returns
returns c = λ a b ha hb. (λ s g h. subset_has a b g s h, λ all. has_subset a b ha hb all)
