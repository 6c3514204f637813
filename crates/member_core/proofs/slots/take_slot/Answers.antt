use Rattle.std.proofs.Common.{subst, Option}
use Rattle.member_moment.specs.declared.taking.Caused.{Caused}
use Rattle.member_moment.specs.Taking.{HasTaken}
use Rattle.member_core.specs.Slots.{pass_slot}
use Rattle.member_core.proofs.Slotting.{none_taken, some_taken}
use Rattle.member_core.proofs.slots.take_slot.Goals as goal

pub returns-in-None : goal.returns-in-None
returns-in-None c = none_taken pass_slot c.args.moment.now c.take_next.new.self c.if-not-takes_slots.ensures (subst (λ (o : Option Caused). HasTaken o c.args.moment.now c.take_next.new.self) c.in-None.is c.in_ok-take_next.ensures)

pub returns-in_ok-point-in-Some : goal.returns-in_ok-point-in-Some
returns-in_ok-point-in-Some c =
    some_taken c.in-Some.caused c.args.moment.now c.take_next.new.self c.cause.new.moment c.point.new.moment c.if-not-takes_slots.ensures
    (subst (λ (o : Option Caused). HasTaken o c.args.moment.now c.take_next.new.self) c.in-Some.is c.in_ok-take_next.ensures) c.in_ok-cause-in-Some.ensures c.in_ok-point-in-Some.ensures
