use Rattle.std.proofs.Common.{sym}
use Rattle.member_core.proofs.Closed.{is_made_of, is_stopped_of, stopped_is}
use Rattle.member_core.proofs.member.Member.is_stopped.Goals as goal

pub returns-clause-stopped : goal.returns-clause-stopped
returns-clause-stopped c = sym (stopped_is _ _ c.self.view_is)

pub returns-clause-member : goal.returns-clause-member
returns-clause-member c = λ a m. (is_made_of a _ _ c.self.view_is m).running

pub returns-clause-server : goal.returns-clause-server
returns-clause-server c = λ a m. (is_stopped_of a _ _ c.self.view_is m).stopped
