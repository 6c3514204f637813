use Rattle.std.proofs.lemmas.Result.{on_ok_weaker}
use Rattle.member_core.proofs.hearing.hear_at_node.Goals as goal

pub returns : goal.returns
returns c = on_ok_weaker c.at_node.result (λ d. d c.requires.fits) c.at_node.ensures.does
