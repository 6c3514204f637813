use Rattle.std.proofs.Common.{refl, sym, ◌∙◌}
use Rattle.group_rules.specs.Script.{drain_times}
use Rattle.group_world.specs.Draining.{worked_all, worked_one}
use Rattle.group_world.proofs.Closing.{drain_none, drain_one, drain_times_stay}
use Rattle.group_world.specs.Standing.{Ends}
use Rattle.group_world.proofs.Results.{err_is}
use Rattle.group_world.proofs.Turns.{turns_fail, turns_on, turns_over, turns_stop}
use Rattle.group_world.proofs.stage.Stage.work_all.Goals as goal

pub loop-init : goal.loop-init
loop-init c y a = (y, a, refl)

pub returns-in-None-clause-stands : goal.returns-in-None-clause-stands
returns-in-None-clause-stands c =
    turns_stop drain_times worked_all 4398046511104 c.loop.counter c.args.self.now c.loop.self c.loop.invariant
    (λ p a f. drain_none f p (sym (c.in_ok-least_worker.ensures p.world.servers a.holds.sites) ∙ c.in-None.is))

pub loop-preserved : goal.loop-preserved
loop-preserved c =
    turns_on drain_times worked_all 4398046511104 c.loop.counter c.args.self.now c.loop.self (worked_one c.in-Some.server) c.work_and_settle.new.self c.loop-test.true c.loop.invariant
    (λ p a f. drain_one f c.in-Some.server p (sym (c.in_ok-least_worker.ensures p.world.servers a.holds.sites) ∙ c.in-Some.is)) c.in_ok-work_and_settle-in-Some.ensures.stands

pub returns-clause-stands : goal.returns-clause-stands
returns-clause-stands c =
    turns_over drain_times worked_all 4398046511104 c.loop.counter c.args.self.now c.loop.self c.loop-test.false c.loop.invariant (λ p. refl)

pub returns-in_err-work_and_settle-in-Some-clause-full : goal.returns-in_err-work_and_settle-in-Some-clause-full
returns-in_err-work_and_settle-in-Some-clause-full c =
    err_is c.from_residual-in_err-work_and_settle-in-Some.result c.in_err-work_and_settle-in-Some.field-0.0 (Ends worked_all c.args.self.now) c.from_residual-in_err-work_and_settle-in-Some.ensures.1
    (turns_fail drain_times worked_all 4398046511104 c.loop.counter c.args.self.now c.loop.self (worked_one c.in-Some.server) c.in_err-work_and_settle-in-Some.field-0.0 c.loop-test.true c.loop.invariant
    (λ p a f. drain_one f c.in-Some.server p (sym (c.in_ok-least_worker.ensures p.world.servers a.holds.sites) ∙ c.in-Some.is)) drain_times_stay c.in_err-work_and_settle-in-Some.ensures.full)
