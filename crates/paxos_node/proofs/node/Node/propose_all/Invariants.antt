-- What is left of the proposals does what all would.
use Rattle.std.proofs.Common.{◌≡◌, ℕ, ◌+◌, ◌++◌}
use Rattle.node_rules.specs.Proposing.{propose_all, propose_times}
use Rattle.paxos_node.proofs.node.Node.propose_all.Given as goal

abbrev pub invariant-loop-proposed : goal.invariant-loop-proposed
invariant-loop-proposed l = record {
  node : (k : ℕ) → k + l.proposed ≡ l.horizon → (propose_times k l.self).node ≡ (propose_all l.initial.self).node;
  sent : (k : ℕ) → k + l.proposed ≡ l.horizon → l.sent.items ++ (propose_times k l.self).sent ≡ l.initial.sent.items ++ (propose_all l.initial.self).sent;
}
