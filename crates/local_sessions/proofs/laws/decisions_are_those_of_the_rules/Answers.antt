-- The one that waits is answered, and nobody else.
use Rattle.local_sessions.proofs.Deciding.{committed, conflicted}
use Rattle.local_sessions.proofs.laws.decisions_are_those_of_the_rules.Goals as goal

pub returns-clause-committed : goal.returns-clause-committed
returns-clause-committed c xs k a x up f o only = committed xs k a x up f o only

pub returns-clause-conflicted : goal.returns-clause-conflicted
returns-clause-conflicted c xs k a i g up f o only = conflicted xs k a i g up f o only
