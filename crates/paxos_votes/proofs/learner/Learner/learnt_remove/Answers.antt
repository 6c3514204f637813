-- A Remove among the entries from the slot on.
use Rattle.std.proofs.Common.{sym, ◌∙◌}
use Rattle.paxos_votes.proofs.Decided.{removes_from}
use Rattle.paxos_votes.proofs.learner.Learner.learnt_remove.Goals as goal

pub returns : goal.returns
returns c = rw (← c.self.view_is) (c.has_remove_from.ensures ∙ sym (removes_from c.args.inc c.self.inside.decided.entries c.self.inside.slot))
