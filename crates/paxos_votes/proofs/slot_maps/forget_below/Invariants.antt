-- The entries that stay are still to be found.
use Rattle.std.proofs.Common.{◌≡◌, length}
use Rattle.paxos_votes.specs.Entries.{entries_from}
use Rattle.paxos_votes.proofs.slot_maps.forget_below.Given as goal

abbrev pub invariant-loop-slots : goal.invariant-loop-slots
invariant-loop-slots g l = entries_from l.below l.slots.entries ≡ entries_from l.below l.initial.slots.entries

abbrev pub decreases-loop-slots : goal.decreases-loop-slots
decreases-loop-slots g l = length l.slots.entries
