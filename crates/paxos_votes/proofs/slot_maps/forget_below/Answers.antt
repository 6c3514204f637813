-- The first entry leaves, and is below the slot.
use Rattle.std.proofs.Common.{◌∙◌}
use Rattle.paxos_votes.proofs.SlotMaps.{pops}
use Rattle.paxos_votes.proofs.slot_maps.forget_below.Goals as goal

pub loop-slots-smaller : goal.loop-slots-smaller
loop-slots-smaller g c = (pops c.loop-slots.slots.entries c.pop_first.new.self.entries c.pop_first.result c.args.below (c.is_first_below.ensures.some c.loop-slots-test.true) c.pop_first.ensures.removal c.pop_first.ensures.variant.1).1

pub loop-slots-preserved : goal.loop-slots-preserved
loop-slots-preserved g c = (pops c.loop-slots.slots.entries c.pop_first.new.self.entries c.pop_first.result c.args.below (c.is_first_below.ensures.some c.loop-slots-test.true) c.pop_first.ensures.removal c.pop_first.ensures.variant.1).0 ∙ c.loop-slots.invariant
