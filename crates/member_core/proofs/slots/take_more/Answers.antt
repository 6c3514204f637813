use Rattle.std.proofs.Common.{subst, Bool}
use Rattle.member_core.specs.Slots.{HasPassed, pass_slot}
use Rattle.member_core.proofs.Slotting.{more_all, more_enough, more_first, more_on}
use Rattle.member_core.proofs.slots.take_more.Goals as goal

pub loop-init : goal.loop-init
loop-init c = more_first c.args.moment.now

pub returns-then-not-took : goal.returns-then-not-took
returns-then-not-took c =
    more_all c.loop.counter c.args.moment.now c.loop.moment c.take_slot.new.moment c.loop-test.true c.loop.invariant
    (subst (λ (b : Bool). HasPassed pass_slot b c.loop.moment c.take_slot.new.moment) c.if-not-took.true c.in_ok-took.ensures)

pub loop-preserved : goal.loop-preserved
loop-preserved c =
    more_on c.loop.counter c.args.moment.now c.loop.moment c.take_slot.new.moment c.loop-test.true c.loop.invariant
    (subst (λ (b : Bool). HasPassed pass_slot b c.loop.moment c.take_slot.new.moment) c.if-not-took.false c.in_ok-took.ensures)

pub returns : goal.returns
returns c = more_enough c.loop.counter c.args.moment.now c.loop.moment c.loop-test.false c.loop.invariant
