-- The slots of the entries from the slot on.
use Rattle.std.proofs.Common.{◌∙◌}
use Rattle.paxos_votes.proofs.Decided.{waiting_is}
use Rattle.paxos_votes.proofs.learner.Learner.decided.Goals as goal

pub returns : goal.returns
returns c = rw (← c.self.view_is) (c.in_ok-slots_from.ensures ∙ waiting_is c.self.inside.decided.entries c.self.inside.slot c.self.inside.next)
