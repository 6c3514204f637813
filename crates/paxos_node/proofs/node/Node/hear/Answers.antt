-- A Learn and a Welcome aren't answered.
use Rattle.std.proofs.Common.{append-nil, sym}
use Rattle.paxos_node.proofs.Results.{at_ok}
use Rattle.paxos_node.proofs.Sends.{learn_sends, welcome_sends}
use Rattle.paxos_node.proofs.node.Node.hear.Goals as goal

pub returns-in-Learn-clause-sent : goal.returns-in-Learn-clause-sent
returns-in-Learn-clause-sent c = at_ok c.hear_learn.result (rw (c.in-Learn.is, learn_sends c.args.from c.in-Learn.slot c.in-Learn.value c.args.self.now) (sym (append-nil c.args.sent.now.items)))

pub returns-in-Welcome-clause-sent : goal.returns-in-Welcome-clause-sent
returns-in-Welcome-clause-sent c = at_ok c.hear_welcome.result (rw (c.in-Welcome.is, welcome_sends c.args.from c.in-Welcome.welcome c.args.self.now) (sym (append-nil c.args.sent.now.items)))
