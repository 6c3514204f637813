-- The sessions of the list are among those of the history, and the others have no transaction.
use Rattle.local_sessions.proofs.Falling.{fallen}
use Rattle.local_sessions.proofs.FallFrees.{freed}
use Rattle.local_sessions.proofs.Remaining.{remaining}
use Rattle.local_sessions.proofs.StillActive.{fallen as still}
use Rattle.local_sessions.proofs.laws.the_left_are_told_by_the_rules.Goals as goal

pub returns-clause-told : goal.returns-clause-told
returns-clause-told c xs k ts a x up f o taken = fallen xs k ts a x up f o taken

pub returns-clause-left : goal.returns-clause-left
returns-clause-left c xs k ts a x up f o taken = remaining xs k ts a x up f o taken

pub returns-clause-freed : goal.returns-clause-freed
returns-clause-freed c xs k now ts a x up f o taken e = freed xs k now ts a x up f o taken e

pub returns-clause-active : goal.returns-clause-active
returns-clause-active c k a x o = still k a x o
