-- At the end at most one is left.
use Rattle.std.proofs.Common.{◌-◌, sym, ◌∙◌, arith}
use Rattle.paxos_node.proofs.Lists.{ascends_last}
use Rattle.paxos_node.proofs.order.ascends.Goals as goal

pub returns : goal.returns
returns c = sym (c.loop-next.invariant ∙ ascends_last c.args.incs.now (c.loop-next.next - 1) (omega arith))
