use Rattle.group_promises.proofs.Steps.{every_step_promised}
use Rattle.group_promises.proofs.every_step_is_promised.Goals as goal

pub returns : goal.returns
returns c = every_step_promised c.every_history_is_true.ensures
