use Rattle.std.proofs.Common.{refl, true}
use Rattle.group_world.proofs.Posting.{marks}
use Rattle.group_world.proofs.stage.Stage.lose.Goals as goal

pub returns : goal.returns
returns c y a = marks (λ l. record l { lost = true }) (λ l. (refl, refl)) c.args.k y c.args.self.now c.mark_lost.new.self c.mark_lost.ensures a
