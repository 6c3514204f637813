use Rattle.std.proofs.Common.{subst, Bool}
use Rattle.member_core.specs.Slots.{HasPassed, take_all}
use Rattle.member_core.proofs.Slotting.{settles_once}
use Rattle.member_core.proofs.slots.settle_once.Goals as goal

pub returns : goal.returns
returns c =
    settles_once c.args.moment.now c.take_slots.new.moment c.propose.new.moment
    (subst (λ (b : Bool). HasPassed (λ t. take_all) b c.args.moment.now c.take_slots.new.moment) c.if-not-took.false c.in_ok-took.ensures) c.in_ok-propose.ensures
