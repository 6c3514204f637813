use Rattle.group_bridge.proofs.Projected.{step_is_acts}
use Rattle.group_bridge.proofs.steps_are_acts.Goals as goal

pub returns : goal.returns
returns c = step_is_acts c.only_taking_takes.ensures.acts c.only_taking_greets.ensures.acts c.only_taking_greets.ensures.silent
