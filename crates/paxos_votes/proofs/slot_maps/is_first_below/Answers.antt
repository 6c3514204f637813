-- The first slot is the least one.
use Rattle.std.proofs.lemmas.Bool.{ltb-false}
use Rattle.paxos_votes.proofs.SlotMaps.{all_from}
use Rattle.paxos_votes.proofs.slot_maps.is_first_below.Goals as goal

pub returns-in-Some-clause-none : goal.returns-in-Some-clause-none
returns-in-Some-clause-none g c e = all_from c.args.slots.now.entries c.in-Some.slot.now c.args.below (ltb-false c.in-Some.slot.now c.args.below e) c.in-Some.ensures.all_from
