use Rattle.std.proofs.Common.{Option, Some, None, subst, ap}
use Rattle.std.specs.Prelude.{option_copied}
use Rattle.apply_queue.specs.declared.work.WorkDone.{WorkDone}
use Rattle.group_rules.specs.Events.{Works}
use Rattle.group_rules.specs.Script.{does, event}
use Rattle.group_rules.specs.declared.steps.Step.TheVariants.{Work}
use Rattle.member_looks.specs.Working.{IsResult}
use Rattle.group_world.proofs.Parts.{goes_as}
use Rattle.group_world.proofs.Results.{on_ok}
use Rattle.group_world.proofs.Workers.{done_as, undone_as}
use Rattle.group_world.proofs.stage.Stage.work_place.Goals as goal

pub returns-in-None-clause-stands : goal.returns-in-None-clause-stands
returns-in-None-clause-stands c =
    on_ok c.event.result c.event.ensures.stands (goes_as (does (Work c.args.server (Some c.args.place))) (event c.args.server (Works c.args.place None)) c.args.self.now c.event.new.self
    (undone_as c.args.server c.args.self.now (option_copied c.member.result) c.in-Some.member.now (λ y a. c.member.ensures y.world.servers a.holds.sites) (ap option_copied c.in-Some.is)
    c.args.place (λ a i. subst (λ (o : Option WorkDone). IsResult a c.args.place o) c.in-None.is (c.in_ok-work_at.ensures a i))))

pub returns-in-Some-2-clause-stands : goal.returns-in-Some-2-clause-stands
returns-in-Some-2-clause-stands c =
    on_ok c.event-in-Some-2.result c.event-in-Some-2.ensures.stands (goes_as (does (Work c.args.server (Some c.args.place))) (event c.args.server (Works c.in-Some-2.done.place (Some c.in-Some-2.done.body))) c.args.self.now c.event-in-Some-2.new.self
    (done_as c.args.server c.args.self.now (option_copied c.member.result) c.in-Some.member.now (λ y a. c.member.ensures y.world.servers a.holds.sites) (ap option_copied c.in-Some.is)
    c.args.place c.in-Some-2.done (λ a i. subst (λ (o : Option WorkDone). IsResult a c.args.place o) c.in-Some-2.is (c.in_ok-work_at.ensures a i))))
