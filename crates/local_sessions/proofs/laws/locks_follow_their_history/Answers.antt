-- One thing more in the history.
use Rattle.local_sessions.proofs.Killing.{freed}
use Rattle.local_sessions.proofs.KeyHolders.{none, passed, fallen, called, begun, changed, asked, ended, timed_out}
use Rattle.local_sessions.proofs.laws.locks_follow_their_history.Goals as goal

pub returns-clause-passed : goal.returns-clause-passed
returns-clause-passed c k l d h o = passed k l d h o

pub returns-clause-fallen : goal.returns-clause-fallen
returns-clause-fallen c k l x o = fallen k l x o

pub returns-clause-called : goal.returns-clause-called
returns-clause-called c k l s v w o h = called k l s v w o h

pub returns-clause-begun : goal.returns-clause-begun
returns-clause-begun c k l s e y o h = begun k l s e y o h

pub returns-clause-changed : goal.returns-clause-changed
returns-clause-changed c k now l s x o h a n e = changed k now l s x o h a n e

pub returns-clause-asked : goal.returns-clause-asked
returns-clause-asked c k l s i o h a = asked k l s i o h a

pub returns-clause-ended : goal.returns-clause-ended
returns-clause-ended c k now l s o e = ended k now l s o e

pub returns-clause-timed_out : goal.returns-clause-timed_out
returns-clause-timed_out c k l s o h = timed_out k l s o h

pub returns-clause-done : goal.returns-clause-done
returns-clause-done c xs k now l p x f o e d = freed xs k l p x f o e now d

pub returns-clause-none : goal.returns-clause-none
returns-clause-none c = none
