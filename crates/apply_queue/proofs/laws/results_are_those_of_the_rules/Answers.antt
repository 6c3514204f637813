-- What a result leaves, and where it is taken.
use Rattle.apply_queue.proofs.Results.{found, gtid_is, result_is, unqueued}
use Rattle.apply_queue.proofs.laws.results_are_those_of_the_rules.Goals as goal

pub returns-clause-result : goal.returns-clause-result
returns-clause-result c = result_is

pub returns-clause-unqueued : goal.returns-clause-unqueued
returns-clause-unqueued c = unqueued

pub returns-clause-gtid : goal.returns-clause-gtid
returns-clause-gtid c = gtid_is

pub returns-clause-found : goal.returns-clause-found
returns-clause-found c = found
