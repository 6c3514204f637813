-- Thing by thing.
use Rattle.row_store.proofs.Kept.{keeps_committing, keeps_founded, keeps_passing, keeps_restoring, keeps_started, keeps_taking}
use Rattle.row_store.proofs.laws.what_is_executed_is_committed.Goals as goal

pub returns-clause-founded : goal.returns-clause-founded
returns-clause-founded c = keeps_founded

pub returns-clause-started : goal.returns-clause-started
returns-clause-started c = keeps_started

pub returns-clause-taken : goal.returns-clause-taken
returns-clause-taken c = keeps_taking

pub returns-clause-restored : goal.returns-clause-restored
returns-clause-restored c = keeps_restoring

pub returns-clause-committed : goal.returns-clause-committed
returns-clause-committed c = keeps_committing

pub returns-clause-passed : goal.returns-clause-passed
returns-clause-passed c = keeps_passing
