-- What the reply does is what the rules do.
use Rattle.local_sessions.proofs.Calling.{said, sent}
use Rattle.local_sessions.proofs.laws.calls_leave_what_the_rules_leave.Goals as goal

pub returns-clause-said : goal.returns-clause-said
returns-clause-said c xs new at now a s r x f l t e d = said xs new at now a s r f l t x e d

pub returns-clause-sent : goal.returns-clause-sent
returns-clause-sent c xs new at now a s r b f l t e d = sent xs new at now a s r f l t b e d
