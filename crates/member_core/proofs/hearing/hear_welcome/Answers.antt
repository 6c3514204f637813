use Rattle.std.proofs.lemmas.Result.{on_ok_weaker}
use Rattle.member_core.proofs.hearing.hear_welcome.Goals as goal

pub returns : goal.returns
returns c = on_ok_weaker c.hear_welcome.result (λ d. d c.requires) c.hear_welcome.ensures
