-- From the invariant of every run.
use Rattle.order_laws.proofs.Runs.{at_most_one_chosen, one_log}
use Rattle.order_laws.proofs.one_value_in_each_slot.Goals as goal

pub returns-clause-chosen : goal.returns-clause-chosen
returns-clause-chosen c = at_most_one_chosen

pub returns-clause-log : goal.returns-clause-log
returns-clause-log c = one_log
