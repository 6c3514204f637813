use Rattle.std.proofs.lemmas.Result.{IfOk-weaker}
use Rattle.group_rules.specs.Life.{stored}
use Rattle.kept_server.specs.Keeping.{left_of}
use Rattle.member_core.proofs.Closed.{is_made_of, is_stopped_of}
use Rattle.member_core.proofs.member.Member.into_kept.Goals as goal

pub returns-clause-member : goal.returns-clause-member
returns-clause-member c = IfOk-weaker c.redo.result _ _ (λ k h a m. h (stored a.life) (left_of a.life) (is_made_of a _ _ c.self.view_is m).server) c.redo.ensures

pub returns-clause-server : goal.returns-clause-server
returns-clause-server c = IfOk-weaker c.redo.result _ _ (λ k h a m. h (stored a.life) (left_of a.life) (is_stopped_of a _ _ c.self.view_is m).server) c.redo.ensures
