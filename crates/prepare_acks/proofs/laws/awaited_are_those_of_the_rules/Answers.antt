-- Each thing, and what is told.
use Rattle.prepare_acks.proofs.Awaiting.{enters, founds, passes_awaited, restores, starts, takes, tells_complete, tells_nobody}
use Rattle.prepare_acks.proofs.laws.awaited_are_those_of_the_rules.Goals as goal

pub returns-clause-founded : goal.returns-clause-founded
returns-clause-founded c = founds

pub returns-clause-started : goal.returns-clause-started
returns-clause-started c = starts

pub returns-clause-entered : goal.returns-clause-entered
returns-clause-entered c = enters

pub returns-clause-restored : goal.returns-clause-restored
returns-clause-restored c = restores

pub returns-clause-taken : goal.returns-clause-taken
returns-clause-taken c = takes

pub returns-clause-passed : goal.returns-clause-passed
returns-clause-passed c = passes_awaited

pub returns-clause-complete : goal.returns-clause-complete
returns-clause-complete c = tells_complete

pub returns-clause-nobody : goal.returns-clause-nobody
returns-clause-nobody c = tells_nobody
