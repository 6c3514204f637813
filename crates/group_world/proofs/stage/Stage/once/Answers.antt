use Rattle.group_rules.specs.Script.{does, once_rest, request_of}
use Rattle.group_rules.specs.declared.steps.Step.TheVariants.{Once}
use Rattle.group_world.specs.Standing.{Ends}
use Rattle.group_world.proofs.Closing.{once_rest_stays}
use Rattle.group_world.proofs.Parts.{ends_then}
use Rattle.group_world.proofs.Results.{err_is}
use Rattle.group_world.proofs.stage.Stage.once.Goals as goal

pub returns-in_err-session-clause-full : goal.returns-in_err-session-clause-full
returns-in_err-session-clause-full c =
    err_is c.from_residual.result c.in_err-session.field-0.0 (Ends (does (Once c.args.server c.args.session c.args.change)) c.args.self.now) c.from_residual.ensures.1
    (ends_then _ (once_rest c.args.server c.args.session (request_of c.args.change.item c.args.change.what)) c.args.self.now c.in_err-session.field-0.0
    (once_rest_stays c.args.server c.args.session (request_of c.args.change.item c.args.change.what)) c.in_err-session.ensures.full)
