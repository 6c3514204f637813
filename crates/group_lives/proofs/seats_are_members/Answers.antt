use Rattle.group_lives.proofs.Standings.{stands}
use Rattle.group_lives.proofs.seats_are_members.Goals as goal

pub returns-clause-seated : goal.returns-clause-seated
returns-clause-seated c = λ s p m h. (stands s p m h).0

pub returns-clause-online : goal.returns-clause-online
returns-clause-online c = λ s p m h. (stands s p m h).1
