-- The vote goes to its place.
use Rattle.std.proofs.Common.{ap, ◌∙◌, List}
use Rattle.std.specs.Prelude.{map}
use Rattle.node_rules.specs.Acceptor.{Acceptor}
use Rattle.slot_values.specs.declared.value.Vote.{Vote}
use Rattle.paxos_votes.specs.declared.acceptor.Voted.{Voted}
use Rattle.paxos_votes.specs.Votes.{vote_of}
use Rattle.paxos_votes.proofs.Votes.{votes_put}
use Rattle.paxos_votes.proofs.acceptor.Acceptor.vote.Goals as goal

pub returns-clause-ok : goal.returns-clause-ok
returns-clause-ok c =
    let x : Voted = record { ballot = c.args.vote.ballot; value = c.args.vote.value } in
    rw (← c.self.view_is) (ap (λ (vs : List Vote). let a : Acceptor = record { promise = c.self.inside.promise; votes = vs; low = c.self.inside.low } in a) (ap (map vote_of) c.in_ok-insert.ensures.entries ∙ votes_put c.self.inside.votes.entries c.args.vote.slot x))
