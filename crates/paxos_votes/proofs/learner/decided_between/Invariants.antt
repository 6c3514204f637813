-- What is found so far, with what is left.
use Rattle.std.proofs.Common.{◌≡◌, ◌++◌}
use Rattle.std.specs.Prelude.{map}
use Rattle.paxos_votes.specs.Entries.{entries_within, entry_in, entry_of}
use Rattle.paxos_votes.proofs.learner.decided_between.Given as goal

abbrev pub invariant-loop-slot : goal.invariant-loop-slot
invariant-loop-slot l = map entry_in l.known.items ++ map entry_of l.slot-iterator ≡ map entry_of (entries_within l.from l.end l.decided.entries)
