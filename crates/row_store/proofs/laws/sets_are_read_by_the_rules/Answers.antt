-- What is told, and what stays.
use Rattle.row_store.proofs.Followed.{now_told, part_stays, set_told}
use Rattle.row_store.proofs.laws.sets_are_read_by_the_rules.Goals as goal

pub returns-clause-now : goal.returns-clause-now
returns-clause-now c = now_told

pub returns-clause-at : goal.returns-clause-at
returns-clause-at c = set_told

pub returns-clause-within : goal.returns-clause-within
returns-clause-within c = part_stays
