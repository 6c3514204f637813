-- One thing more in the history.
use Rattle.local_sessions.proofs.Holders.{holds}
use Rattle.local_sessions.proofs.Killing.{done}
use Rattle.local_sessions.proofs.Passing.{none, passed, called, begun, changed, asked, ended}
use Rattle.local_sessions.proofs.Remaining.{at_error}
use Rattle.local_sessions.proofs.laws.sessions_follow_their_history.Goals as goal

pub returns-clause-none : goal.returns-clause-none
returns-clause-none c = none

pub returns-clause-passed : goal.returns-clause-passed
returns-clause-passed c xs l d h f = passed xs l d h f

pub returns-clause-fallen : goal.returns-clause-fallen
returns-clause-fallen c xs l x f = at_error xs l x f

pub returns-clause-called : goal.returns-clause-called
returns-clause-called c xs l s v w f n = called xs l s v w f n

pub returns-clause-begun : goal.returns-clause-begun
returns-clause-begun c xs l s e y f a h = begun xs l s e y f a h

pub returns-clause-held : goal.returns-clause-held
returns-clause-held c xs k l s f o = holds xs k l s f o

pub returns-clause-changed : goal.returns-clause-changed
returns-clause-changed c xs l s x f h = changed xs l s x f h

pub returns-clause-asked : goal.returns-clause-asked
returns-clause-asked c xs l s i f h = asked xs l s i f h

pub returns-clause-ended : goal.returns-clause-ended
returns-clause-ended c xs l s f = ended xs l s f

pub returns-clause-done : goal.returns-clause-done
returns-clause-done c xs k l p x f o e = done xs k l p x f o e
