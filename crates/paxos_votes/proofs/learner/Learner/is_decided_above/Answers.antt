-- The last slot decides.
use Rattle.std.proofs.Common.{sym}
use Rattle.paxos_votes.proofs.Decided.{above_last}
use Rattle.paxos_votes.proofs.learner.Learner.is_decided_above.Goals as goal

pub returns-in-Some : goal.returns-in-Some
returns-in-Some c = rw (← c.self.view_is) (sym (above_last c.self.inside.decided.entries c.args.slot c.in-Some.last.now c.in-Some.field-0-1.now c.in-Some.ensures.last c.in-Some.ensures.all_up_to))
