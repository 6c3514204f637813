use Rattle.std.proofs.lemmas.Result.{IfOk-weaker}
use Rattle.member_core.specs.Standing.{cleared}
use Rattle.member_core.proofs.Closed.{is_made_of}
use Rattle.member_core.proofs.member.Member.show_rows.Goals as goal

pub returns : goal.returns
returns c = IfOk-weaker c.show_rows.result _ _ (λ x h a m. h a.life (cleared a) (is_made_of a _ _ c.self.view_is m).moment) c.show_rows.ensures
