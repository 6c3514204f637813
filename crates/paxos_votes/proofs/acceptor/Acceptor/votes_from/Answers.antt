-- What is reported are the votes from the slot on.
use Rattle.std.proofs.Common.{sym, ◌∙◌}
use Rattle.paxos_votes.proofs.Votes.{votes_from_is}
use Rattle.paxos_votes.proofs.acceptor.Acceptor.votes_from.Goals as goal

pub returns : goal.returns
returns c = rw (← c.self.view_is) (c.from_vec.ensures ∙ c.in_ok-reported.ensures ∙ sym (votes_from_is c.self.inside.votes.entries c.args.from))
