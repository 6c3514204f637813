use Rattle.member_core.specs.Standing.{cleared}
use Rattle.member_core.proofs.Closed.{is_made_of}
use Rattle.member_core.proofs.member.Member.show_kept.Goals as goal

pub returns : goal.returns
returns c = λ a m. c.show_kept.ensures a.life (cleared a) (is_made_of a _ _ c.self.view_is m).moment
