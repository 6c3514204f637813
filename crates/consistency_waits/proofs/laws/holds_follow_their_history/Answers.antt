-- Thing by thing.
use Rattle.consistency_waits.proofs.Histories.{asked, begun, calls, ended, foreign, held_told, none, others, passes, takes, ticks}
use Rattle.consistency_waits.proofs.laws.holds_follow_their_history.Goals as goal

pub returns-clause-none : goal.returns-clause-none
returns-clause-none c = none

pub returns-clause-passed : goal.returns-clause-passed
returns-clause-passed c = passes

pub returns-clause-called : goal.returns-clause-called
returns-clause-called c = calls

pub returns-clause-begun : goal.returns-clause-begun
returns-clause-begun c = begun

pub returns-clause-asked : goal.returns-clause-asked
returns-clause-asked c = asked

pub returns-clause-ended : goal.returns-clause-ended
returns-clause-ended c = ended

pub returns-clause-others : goal.returns-clause-others
returns-clause-others c = others

pub returns-clause-ticked : goal.returns-clause-ticked
returns-clause-ticked c = ticks

pub returns-clause-taken : goal.returns-clause-taken
returns-clause-taken c = takes

pub returns-clause-foreign : goal.returns-clause-foreign
returns-clause-foreign c = foreign

pub returns-clause-held : goal.returns-clause-held
returns-clause-held c = held_told
