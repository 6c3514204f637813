use Rattle.std.proofs.Common.{subst, Bool}
use Rattle.member_core.specs.Slots.{HasPassed, pass_slot}
use Rattle.member_core.proofs.Slotting.{some_taken_all}
use Rattle.member_core.proofs.slots.take_slots.Goals as goal

pub returns : goal.returns
returns c =
    some_taken_all c.args.moment.now c.take_slot.new.moment c.take_more.new.moment
    (subst (λ (b : Bool). HasPassed pass_slot b c.args.moment.now c.take_slot.new.moment) c.if-not-took.false c.in_ok-took.ensures) c.in_ok-take_more.ensures
