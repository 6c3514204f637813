-- Those of the last slots, so many as were passed.
use Rattle.std.proofs.Common.{◌≡◌, ◌+◌, ◌-◌}
use Rattle.node_rules.specs.Proposing.{reach}
use Rattle.paxos_node.proofs.node.Node.reach.Given as goal

abbrev pub invariant-loop-passed : goal.invariant-loop-passed
invariant-loop-passed l = l.incs.items ≡ reach l.self l.passed (l.self.learner.next + (l.self.horizon - l.passed))
