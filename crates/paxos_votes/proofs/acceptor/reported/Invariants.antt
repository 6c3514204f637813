-- What is reported so far, with what is left.
use Rattle.std.proofs.Common.{◌≡◌, ◌++◌}
use Rattle.std.specs.Prelude.{map}
use Rattle.paxos_votes.specs.Entries.{entries_from}
use Rattle.paxos_votes.specs.Votes.{vote_of}
use Rattle.paxos_votes.proofs.acceptor.reported.Given as goal

abbrev pub invariant-loop-slot : goal.invariant-loop-slot
invariant-loop-slot l = l.report.items ++ map vote_of l.slot-iterator ≡ map vote_of (entries_from l.from l.votes.entries)
