use Rattle.std.proofs.Common.{Option, Some, None, subst, ap}
use Rattle.std.specs.Prelude.{option_copied}
use Rattle.apply_queue.specs.declared.work.WorkDone.{WorkDone}
use Rattle.group_rules.specs.Events.{Works}
use Rattle.group_rules.specs.Script.{does, event, say, waiting_at}
use Rattle.group_rules.specs.declared.steps.Step.TheVariants.{Work}
use Rattle.member_looks.specs.Working.{IsLeast}
use Rattle.group_world.proofs.Parts.{goes_as}
use Rattle.group_world.proofs.Results.{on_ok}
use Rattle.group_rules.specs.declared.said.Said.TheVariants.{Idle}
use Rattle.group_world.proofs.Workers.{idle_as, least_as}
use Rattle.group_world.proofs.stage.Stage.work_least.Goals as goal

pub returns-in-Some-2-clause-stands : goal.returns-in-Some-2-clause-stands
returns-in-Some-2-clause-stands c =
    on_ok c.event.result c.event.ensures.stands (goes_as (does (Work c.args.server None)) (event c.args.server (Works c.in-Some-2.done.place (Some c.in-Some-2.done.body))) c.args.self.now c.event.new.self
    (least_as c.args.server c.args.self.now (option_copied c.member.result) c.in-Some.member.now (λ y a. c.member.ensures y.world.servers a.holds.sites) (ap option_copied c.in-Some.is)
    c.in-Some-2.done (λ a i. subst (λ (o : Option WorkDone). IsLeast a (waiting_at a) o) c.in-Some-2.is (c.in_ok-least_work.ensures a i))))

pub returns-in_ok-tell-in-None-clause-stands : goal.returns-in_ok-tell-in-None-clause-stands
returns-in_ok-tell-in-None-clause-stands c =
    goes_as (does (Work c.args.server None)) (say (Idle c.inc.result)) c.args.self.now c.tell.new.self
    (idle_as c.args.server c.args.self.now (option_copied c.member.result) c.in-Some.member.now (λ y a. c.member.ensures y.world.servers a.holds.sites) (ap option_copied c.in-Some.is)
    c.inc.result c.inc.ensures (λ a i. subst (λ (o : Option WorkDone). IsLeast a (waiting_at a) o) c.in-None.is (c.in_ok-least_work.ensures a i)))
    c.in_ok-tell-in-None.ensures
