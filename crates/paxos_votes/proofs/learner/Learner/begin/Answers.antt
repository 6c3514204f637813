-- `next` passes the slots that have entries.
use Rattle.paxos_votes.proofs.Decided.{begun}
use Rattle.paxos_votes.proofs.learner.Learner.begin.Goals as goal

pub returns : goal.returns
returns c = rw (← c.self.view_is) (begun c.self.inside.decided.entries c.args.slot c.args.slot c.least_undecided-self-inside.result c.least_undecided-self-inside.ensures.slot)
