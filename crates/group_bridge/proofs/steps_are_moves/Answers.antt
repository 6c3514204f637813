use Rattle.group_bridge.proofs.Taken.{steps}
use Rattle.group_bridge.proofs.steps_are_moves.Goals as goal

pub returns : goal.returns
returns c = steps
