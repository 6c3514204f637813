use Rattle.std.proofs.Common.{refl}
use Rattle.group_rules.specs.Events.{Ticks}
use Rattle.group_rules.specs.Script.{event, tick_times}
use Rattle.group_world.specs.Standing.{Ends}
use Rattle.group_world.proofs.Closing.{tick_first, tick_times_stay}
use Rattle.group_world.proofs.Results.{err_is}
use Rattle.group_world.proofs.Turns.{turns_fail, turns_on, turns_over}
use Rattle.group_world.proofs.stage.Stage.tick.Goals as goal

pub loop-init : goal.loop-init
loop-init c y a = (y, a, tick_first c.args.server c.args.count y)

pub loop-preserved : goal.loop-preserved
loop-preserved c =
    turns_on (tick_times c.args.server) (tick_times c.args.server c.args.count) c.args.count c.loop.counter c.args.self.now c.loop.self (event c.args.server Ticks) c.event.new.self c.loop-test.true c.loop.invariant
    (λ p a f. refl) c.in_ok-event.ensures.stands

pub returns-clause-stands : goal.returns-clause-stands
returns-clause-stands c =
    turns_over (tick_times c.args.server) (tick_times c.args.server c.args.count) c.args.count c.loop.counter c.args.self.now c.loop.self c.loop-test.false c.loop.invariant (λ p. refl)

pub returns-in_err-event-clause-full : goal.returns-in_err-event-clause-full
returns-in_err-event-clause-full c =
    err_is c.from_residual.result c.in_err-event.field-0.0 (Ends (tick_times c.args.server c.args.count) c.args.self.now) c.from_residual.ensures.1
    (turns_fail (tick_times c.args.server) (tick_times c.args.server c.args.count) c.args.count c.loop.counter c.args.self.now c.loop.self (event c.args.server Ticks) c.in_err-event.field-0.0 c.loop-test.true c.loop.invariant
    (λ p a f. refl) (λ f. tick_times_stay c.args.server f) c.in_err-event.ensures.full)
