-- Thing by thing.
use Rattle.apply_queue.proofs.Lives.{changes_state, commits, failed, founded, hands, passes, restores, started, takes_none, takes_one}
use Rattle.apply_queue.proofs.Dones.{does}
use Rattle.apply_queue.proofs.laws.queues_are_those_of_the_rules.Goals as goal

pub returns-clause-founded : goal.returns-clause-founded
returns-clause-founded c = founded

pub returns-clause-started : goal.returns-clause-started
returns-clause-started c = started

pub returns-clause-certified : goal.returns-clause-certified
returns-clause-certified c = takes_one

pub returns-clause-taken : goal.returns-clause-taken
returns-clause-taken c = takes_none

pub returns-clause-handed : goal.returns-clause-handed
returns-clause-handed c = hands

pub returns-clause-done : goal.returns-clause-done
returns-clause-done c = does

pub returns-clause-committed : goal.returns-clause-committed
returns-clause-committed c = commits

pub returns-clause-restored : goal.returns-clause-restored
returns-clause-restored c = restores

pub returns-clause-stated : goal.returns-clause-stated
returns-clause-stated c = changes_state

pub returns-clause-failed : goal.returns-clause-failed
returns-clause-failed c = failed

pub returns-clause-passed : goal.returns-clause-passed
returns-clause-passed c = passes
