-- The last configuration of a Welcome in order is that of its members.
use Rattle.std.proofs.Common.{sym, ◌∙◌}
use Rattle.paxos_node.proofs.Begins.{latest_is}
use Rattle.paxos_node.proofs.node.Node.hear_welcome.Goals as goal

pub begin-requires-clause-latest : goal.begin-requires-clause-latest
begin-requires-clause-latest c = latest_is c.args.welcome.now c.self.inside.me c.self.inside.horizon (sym c.in_ok-is_in_order.ensures ∙ c.if-not-branch.false) (sym c.is_for.ensures ∙ c.if-not-is_for.false)
