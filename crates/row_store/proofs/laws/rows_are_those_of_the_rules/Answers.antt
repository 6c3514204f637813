-- Thing by thing.
use Rattle.row_store.proofs.Commits.{commits}
use Rattle.row_store.proofs.Followed.{founded, passes, restores, started_first, takes_none, takes_one}
use Rattle.row_store.proofs.laws.rows_are_those_of_the_rules.Goals as goal

pub returns-clause-founded : goal.returns-clause-founded
returns-clause-founded c = founded

pub returns-clause-started : goal.returns-clause-started
returns-clause-started c = started_first

pub returns-clause-taken : goal.returns-clause-taken
returns-clause-taken c = takes_none

pub returns-clause-certified : goal.returns-clause-certified
returns-clause-certified c = takes_one

pub returns-clause-restored : goal.returns-clause-restored
returns-clause-restored c = restores

pub returns-clause-committed : goal.returns-clause-committed
returns-clause-committed c l g d old new h k s u n a b = commits l g d old new h k s u n a b

pub returns-clause-passed : goal.returns-clause-passed
returns-clause-passed c = passes
