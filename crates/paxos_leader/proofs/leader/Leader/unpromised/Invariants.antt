-- Those of the last slots, so many as were passed.
use Rattle.std.proofs.Common.{◌≡◌, ◌+◌, ◌-◌, Some}
use Rattle.node_rules.specs.Leader.{unpromised}
use Rattle.paxos_leader.specs.Parts.{standing}
use Rattle.paxos_leader.proofs.leader.Leader.unpromised.Given as goal

abbrev pub invariant-loop-passed : goal.invariant-loop-passed
invariant-loop-passed l = l.incs.items ≡ unpromised (Some (standing l.turns)) l.self l.passed (l.learner.next + (l.horizon - l.passed))
