-- How the votes of an acceptor stand in a map by slot.
use Rattle.std.specs.Prelude.{ℕ, Option, Some, None}
use Rattle.gr_ids.specs.declared.names.Ballot.{Ballot}
use Rattle.gr_ids.specs.Names.{no_ballot}
use Rattle.slot_values.specs.declared.value.Vote.{Vote}
use Rattle.paxos_votes.specs.declared.acceptor.Voted.{Voted}

abbrev pub vote_of : ℕ × Voted → Vote
vote_of e = record { slot = e.0; ballot = e.1.ballot; value = e.1.value }

-- no promise yet is below every ballot
abbrev pub promise_of : Option Ballot → Ballot
promise_of None = no_ballot
promise_of (Some b) = b
