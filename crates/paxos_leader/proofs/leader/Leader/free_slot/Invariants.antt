-- The slot that is looked for is the same from here on, among so many slots as are left.
use Rattle.std.proofs.Common.{◌≡◌, ℕ, ◌+◌}
use Rattle.node_rules.specs.Learner.{is_decided}
use Rattle.node_rules.specs.Leader.{free_slot}
use Rattle.paxos_leader.proofs.leader.Leader.free_slot.Given as goal

abbrev pub invariant-loop-passed : goal.invariant-loop-passed
invariant-loop-passed l = record {
  same : (k : ℕ) → k + l.passed ≡ l.horizon → free_slot (is_decided l.learner) l.self l.horizon l.learner.next ≡ free_slot (is_decided l.learner) l.self k l.slot;
  place : l.slot ≡ l.learner.next + l.passed;
}
