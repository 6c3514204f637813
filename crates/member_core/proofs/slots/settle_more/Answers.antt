use Rattle.std.proofs.Common.{subst, Bool}
use Rattle.member_core.specs.Slots.{HasPassed, round_once}
use Rattle.member_core.proofs.Slotting.{round_all, round_enough, round_first, round_on}
use Rattle.member_core.proofs.slots.settle_more.Goals as goal

pub loop-init : goal.loop-init
loop-init c = round_first c.args.moment.now

pub returns-then-not-took : goal.returns-then-not-took
returns-then-not-took c =
    round_all c.loop.counter c.args.moment.now c.loop.moment c.settle_once.new.moment c.loop-test.true c.loop.invariant
    (subst (λ (b : Bool). HasPassed (λ t. round_once) b c.loop.moment c.settle_once.new.moment) c.if-not-took.true c.in_ok-took.ensures)

pub loop-preserved : goal.loop-preserved
loop-preserved c =
    round_on c.loop.counter c.args.moment.now c.loop.moment c.settle_once.new.moment c.loop-test.true c.loop.invariant
    (subst (λ (b : Bool). HasPassed (λ t. round_once) b c.loop.moment c.settle_once.new.moment) c.if-not-took.false c.in_ok-took.ensures)

pub returns : goal.returns
returns c = round_enough c.loop.counter c.args.moment.now c.loop.moment c.loop-test.false c.loop.invariant
