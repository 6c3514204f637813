use Rattle.std.proofs.Common.{[], None}
use Rattle.group_rules.specs.Script.{does, settle}
use Rattle.group_rules.specs.declared.steps.Step.TheVariants.{Work}
use Rattle.group_world.specs.Draining.{worked_one}
use Rattle.group_world.specs.Standing.{Ends}
use Rattle.group_world.proofs.Closing.{settle_stays}
use Rattle.group_world.proofs.Parts.{ends_then}
use Rattle.group_world.proofs.Results.{err_is, on_ok}
use Rattle.group_world.proofs.stage.Stage.work_and_settle.Goals as goal

pub returns-clause-stands : goal.returns-clause-stands
returns-clause-stands c = on_ok c.settle.result c.settle.ensures.stands (λ g y a. g _ (c.in_ok-work_least.ensures.stands y a))

pub returns-in_err-work_least-clause-full : goal.returns-in_err-work_least-clause-full
returns-in_err-work_least-clause-full c =
    err_is c.from_residual.result c.in_err-work_least.field-0.0 (Ends (worked_one c.args.server) c.args.self.now) c.from_residual.ensures.1
    (ends_then (does (Work c.args.server None)) (settle []) c.args.self.now c.in_err-work_least.field-0.0 (settle_stays []) c.in_err-work_least.ensures.full)
