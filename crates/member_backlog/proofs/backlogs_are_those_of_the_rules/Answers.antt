-- Each thing, and what is told.
use Rattle.member_backlog.proofs.Backlogs.{clear_told, commits, passes, restores, pending_told, takes_none, takes_one}
use Rattle.member_backlog.proofs.backlogs_are_those_of_the_rules.Goals as goal

pub returns-clause-certified : goal.returns-clause-certified
returns-clause-certified c = takes_one

pub returns-clause-taken : goal.returns-clause-taken
returns-clause-taken c = takes_none

pub returns-clause-committed : goal.returns-clause-committed
returns-clause-committed c = commits

pub returns-clause-restored : goal.returns-clause-restored
returns-clause-restored c = restores

pub returns-clause-passed : goal.returns-clause-passed
returns-clause-passed c = passes

pub returns-clause-pending : goal.returns-clause-pending
returns-clause-pending c = pending_told

pub returns-clause-clear : goal.returns-clause-clear
returns-clause-clear c = clear_told
