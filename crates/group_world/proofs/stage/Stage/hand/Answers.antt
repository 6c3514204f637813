use Rattle.std.proofs.Common.{refl, subst, sym}
use Rattle.group_rules.specs.Script.{Play}
use Rattle.member_core.specs.Standing.{event_of}
use Rattle.group_world.specs.Sites.{HaveStepped, StepsAt}
use Rattle.group_world.specs.Standing.{Along}
use Rattle.group_world.proofs.Handed.{handed, idles, refused}
use Rattle.group_world.proofs.Idle.{idle}
use Rattle.group_world.proofs.Results.{if_err, on_four}
use Rattle.group_world.proofs.stage.Stage.hand.Goals as goal

pub returns-in-None-clause-stands : goal.returns-in-None-clause-stands
returns-in-None-clause-stands c y m a k =
    let left = subst (λ o. HaveStepped c.args.server (event_of c.args.event) y.world.servers o c.step.new.self) c.in-None.is (c.in_ok-step.ensures y.world.servers a.holds.rising a.holds.sites) in
    idle c.plays_are_runs.ensures.idle m y c.args.self.now (record c.args.self.now { sites = c.step.new.self }) a k.allowed
    (idles m c.args.server (event_of c.args.event) y.world k left.0) left.1 refl refl refl refl refl

-- what the sites have done
turned : (c : goal.After-leave) (y : Play) → Along y c.args.self.now → StepsAt c.args.server (event_of c.args.event) y.world.servers c.in-Some.turn c.step.new.self
turned c y a = subst (λ o. HaveStepped c.args.server (event_of c.args.event) y.world.servers o c.step.new.self) c.in-Some.is (c.in_ok-step.ensures y.world.servers a.holds.rising a.holds.sites)

pub returns-in-Some-clause-stands : goal.returns-in-Some-clause-stands
returns-in-Some-clause-stands c =
    on_four c.leave.result c.leave.ensures.wire c.leave.ensures.few c.leave.ensures.said c.leave.ensures.beside (λ wire few said beside y m a k.
    handed c.steps_of_plays_are_promised.ensures.steps m c.args.server (event_of c.args.event) y c.args.self.now c.leave.new.self c.in-Some.turn a k
    (subst (StepsAt c.args.server (event_of c.args.event) y.world.servers c.in-Some.turn) (sym beside.sites) (turned c y a)) beside.servers beside.founding wire few said beside.block)

pub returns-in-Some-clause-full : goal.returns-in-Some-clause-full
returns-in-Some-clause-full c = if_err c.leave.result c.leave.ensures.full (λ f h y m a k.
    refused c.steps_of_plays_are_promised.ensures.steps m c.args.server (event_of c.args.event) y c.args.self.now (record c.args.self.now { sites = c.step.new.self }) c.in-Some.turn a k
    (turned c y a) refl refl f h)
