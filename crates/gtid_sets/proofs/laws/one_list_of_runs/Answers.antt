use Rattle.gtid_sets.proofs.LawLemmas.{one_list}
use Rattle.gtid_sets.proofs.laws.one_list_of_runs.Goals as goal

pub returns : goal.returns
returns c = one_list
