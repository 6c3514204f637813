-- The servers so far ascend.
use Rattle.std.proofs.Common.{◌≡◌, ◌-◌, drop}
use Rattle.node_rules.specs.Welcoming.{ascends}
use Rattle.paxos_node.proofs.order.ascends.Given as goal

abbrev pub invariant-loop-next : goal.invariant-loop-next
invariant-loop-next l = ascends l.incs ≡ ascends (drop (l.next - 1) l.incs)
