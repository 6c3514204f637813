-- From the invariant of every run.
use Rattle.order_laws.proofs.Hands.{named, welcomes}
use Rattle.order_laws.proofs.welcomes_follow.Goals as goal

pub returns-clause-named : goal.returns-clause-named
returns-clause-named c = named

pub returns-clause-welcomes : goal.returns-clause-welcomes
returns-clause-welcomes c = welcomes
