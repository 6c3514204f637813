use Rattle.group_world.proofs.Fitting.{request_fits}
use Rattle.group_world.proofs.stage.Stage.session.Goals as goal

pub event-requires-clause-fits : goal.event-requires-clause-fits
event-requires-clause-fits c = request_fits c.args.what c.requires
