use Rattle.std.proofs.Common.{refl, sym, ◌∙◌}
use Rattle.group_rules.specs.Script.{deliver, settle, settle_times}
use Rattle.group_world.proofs.Closing.{settle_first, settle_none, settle_one, settle_times_stay}
use Rattle.group_world.specs.Standing.{Ends}
use Rattle.group_world.proofs.Results.{err_is}
use Rattle.group_world.proofs.Turns.{turns_fail, turns_on, turns_over, turns_stop}
use Rattle.group_world.proofs.stage.Stage.settle.Goals as goal

pub loop-init : goal.loop-init
loop-init c y a = (y, a, settle_first c.args.among.now y)

pub returns-in-None-clause-stands : goal.returns-in-None-clause-stands
returns-in-None-clause-stands c =
    turns_stop (settle_times c.args.among.now) (settle c.args.among.now) 1048576 c.loop.counter c.args.self.now c.loop.self c.loop.invariant
    (λ p a f. settle_none c.args.among.now f p (sym (c.in_ok-next.ensures p a) ∙ c.in-None.is))

pub loop-preserved : goal.loop-preserved
loop-preserved c =
    turns_on (settle_times c.args.among.now) (settle c.args.among.now) 1048576 c.loop.counter c.args.self.now c.loop.self (deliver c.in-Some.k) c.deliver.new.self c.loop-test.true c.loop.invariant
    (λ p a f. settle_one c.args.among.now f c.in-Some.k p (sym (c.in_ok-next.ensures p a) ∙ c.in-Some.is)) c.in_ok-deliver-in-Some.ensures.stands

pub returns-clause-stands : goal.returns-clause-stands
returns-clause-stands c =
    turns_over (settle_times c.args.among.now) (settle c.args.among.now) 1048576 c.loop.counter c.args.self.now c.loop.self c.loop-test.false c.loop.invariant (λ p. refl)

pub returns-in_err-deliver-in-Some-clause-full : goal.returns-in_err-deliver-in-Some-clause-full
returns-in_err-deliver-in-Some-clause-full c =
    err_is c.from_residual-in_err-deliver-in-Some.result c.in_err-deliver-in-Some.field-0.0 (Ends (settle c.args.among.now) c.args.self.now) c.from_residual-in_err-deliver-in-Some.ensures.1
    (turns_fail (settle_times c.args.among.now) (settle c.args.among.now) 1048576 c.loop.counter c.args.self.now c.loop.self (deliver c.in-Some.k) c.in_err-deliver-in-Some.field-0.0 c.loop-test.true c.loop.invariant
    (λ p a f. settle_one c.args.among.now f c.in-Some.k p (sym (c.in_ok-next.ensures p a) ∙ c.in-Some.is)) (λ f. settle_times_stay c.args.among.now f) c.in_err-deliver-in-Some.ensures.full)
