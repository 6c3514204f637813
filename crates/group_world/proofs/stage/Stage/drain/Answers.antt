use Rattle.std.proofs.Common.{[], sym, subst}
use Rattle.group_rules.specs.Script.{does, settle}
use Rattle.group_rules.specs.declared.steps.Step.TheVariants.{Drain}
use Rattle.group_world.specs.Draining.{worked_all}
use Rattle.group_world.specs.Standing.{Along, Closes, Ends}
use Rattle.group_world.proofs.Closing.{drain_first, worked_all_stays}
use Rattle.group_world.proofs.Parts.{ends_as, ends_then}
use Rattle.group_world.proofs.Results.{err_is, if_err, on_ok}
use Rattle.group_world.proofs.stage.Stage.drain.Goals as goal

pub returns-in_err-settle-clause-full : goal.returns-in_err-settle-clause-full
returns-in_err-settle-clause-full c =
    err_is c.from_residual.result c.in_err-settle.field-0.0 (Ends (does Drain) c.args.self.now) c.from_residual.ensures.1
    (ends_as (does Drain) (λ y. worked_all (settle [] y)) c.args.self.now c.in_err-settle.field-0.0 (λ y a. sym (drain_first y))
    (ends_then (settle []) worked_all c.args.self.now c.in_err-settle.field-0.0 worked_all_stays c.in_err-settle.ensures.full))

pub returns-clause-stands : goal.returns-clause-stands
returns-clause-stands c = on_ok c.work_all.result c.work_all.ensures.stands (λ g y a. subst (λ p. Along p c.work_all.new.self) (drain_first y) (g (settle [] y) (c.in_ok-settle.ensures.stands y a)))

pub returns-clause-full : goal.returns-clause-full
returns-clause-full c = if_err c.work_all.result c.work_all.ensures.full (λ e g y a. subst (Closes e) (drain_first y) (g (settle [] y) (c.in_ok-settle.ensures.stands y a)))
