-- The entries of the ten slots.
use Rattle.std.proofs.Common.{◌∙◌, sym}
use Rattle.paxos_votes.proofs.Decided.{known_is, none_known}
use Rattle.paxos_votes.proofs.learner.Learner.known_from.Goals as goal

pub returns-then-from-self : goal.returns-then-from-self
returns-then-from-self c = rw (c.new.ensures.items, ← c.self.view_is) (sym (none_known c.self.inside.decided.entries c.args.from c.self.inside.next c.if-from-self.true))

pub returns : goal.returns
returns c = rw (← c.self.view_is) (c.in_ok-decided_between.ensures ∙ known_is c.self.inside.decided.entries c.args.from c.self.inside.next c.min-end.result c.min-end.ensures)
