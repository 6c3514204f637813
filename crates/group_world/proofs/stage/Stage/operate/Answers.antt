use Rattle.group_world.proofs.Fitting.{operator_fits}
use Rattle.group_world.proofs.stage.Stage.operate.Goals as goal

pub event-requires-clause-fits : goal.event-requires-clause-fits
event-requires-clause-fits c = operator_fits c.args.what c.requires
