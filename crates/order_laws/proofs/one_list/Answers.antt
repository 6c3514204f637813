-- From the invariant of every run.
use Rattle.order_laws.proofs.Runs.{taken_alike, kept_as_in_log, follows}
use Rattle.order_laws.proofs.one_list.Goals as goal

pub returns-clause-taken : goal.returns-clause-taken
returns-clause-taken c = taken_alike

pub returns-clause-follows : goal.returns-clause-follows
returns-clause-follows c = follows

pub returns-clause-kept : goal.returns-clause-kept
returns-clause-kept c = kept_as_in_log
