-- What is left makes the whole.
use Rattle.std.proofs.Common.{◌-◌}
use Rattle.group_rules.specs.Taking.{take_slots}
use Rattle.member_core.specs.Slots.{take_more}
use Rattle.member_core.proofs.Slotting.{IsLeft}
use Rattle.member_core.proofs.slots.take_more.Given as goal

abbrev pub invariant-loop : goal.invariant-loop
invariant-loop l = IsLeft take_slots take_more (4398046511104 - l.counter) l.initial.moment l.moment
