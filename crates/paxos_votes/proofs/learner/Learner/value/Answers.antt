-- The value is that of the slot's entry.
use Rattle.std.proofs.Common.{sym, ◌∙◌}
use Rattle.paxos_votes.proofs.Decided.{entry_value}
use Rattle.paxos_votes.proofs.learner.Learner.value.Goals as goal

pub returns : goal.returns
returns c = rw (← c.self.view_is) (c.get.ensures.value ∙ sym (entry_value c.self.inside.decided.entries c.args.slot))
