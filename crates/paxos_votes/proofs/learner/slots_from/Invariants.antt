-- The slots so far, with what is left.
use Rattle.std.proofs.Common.{◌≡◌, ◌++◌}
use Rattle.std.specs.Prelude.{map}
use Rattle.paxos_votes.specs.Entries.{entries_from}
use Rattle.paxos_votes.proofs.learner.slots_from.Given as goal

abbrev pub invariant-loop-slot : goal.invariant-loop-slot
invariant-loop-slot l = l.slots.items ++ map (λ e. e.0) l.slot-iterator ≡ map (λ e. e.0) (entries_from l.from l.decided.entries)
