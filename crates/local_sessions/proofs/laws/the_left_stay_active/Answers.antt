-- One thing more in the history.
use Rattle.local_sessions.proofs.StillActive.{none, passed, called, begun, asked, ended}
use Rattle.local_sessions.proofs.laws.the_left_stay_active.Goals as goal

pub returns-clause-none : goal.returns-clause-none
returns-clause-none c = none

pub returns-clause-passed : goal.returns-clause-passed
returns-clause-passed c l d h a = passed l d h a

pub returns-clause-called : goal.returns-clause-called
returns-clause-called c l s v w a = called l s v w a

pub returns-clause-begun : goal.returns-clause-begun
returns-clause-begun c l s e y a = begun l s e y a

pub returns-clause-changed : goal.returns-clause-changed
returns-clause-changed c l s x a = a

pub returns-clause-asked : goal.returns-clause-asked
returns-clause-asked c l s i a n = asked l s i a n

pub returns-clause-ended : goal.returns-clause-ended
returns-clause-ended c l s a = ended l s a

pub returns-clause-done : goal.returns-clause-done
returns-clause-done c l p a = a
