use Rattle.group_promises.proofs.Steps.{small_more, made_more, stopped_in_range, written_in_range}
use Rattle.group_promises.proofs.ranges_are_kept.Goals as goal

pub returns-clause-numbers : goal.returns-clause-numbers
returns-clause-numbers c = small_more

pub returns-clause-values : goal.returns-clause-values
returns-clause-values c = made_more

pub returns-clause-stopped : goal.returns-clause-stopped
returns-clause-stopped c = stopped_in_range

pub returns-clause-written : goal.returns-clause-written
returns-clause-written c = written_in_range
