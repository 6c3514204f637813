use Rattle.group_legal.proofs.Ordered.{ordered, every_run_ordered}
use Rattle.group_legal.proofs.the_list_is_one.Goals as goal

pub returns-clause-ordered : goal.returns-clause-ordered
returns-clause-ordered c = ordered

pub returns-clause-every_run : goal.returns-clause-every_run
returns-clause-every_run c = every_run_ordered c.slots_are_of_one_log.ensures
