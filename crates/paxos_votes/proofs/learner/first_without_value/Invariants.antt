-- The slot that is looked for is the same from here on, among so many slots as are left.
use Rattle.std.proofs.Common.{◌≡◌, ℕ, ◌+◌, ◌≤◌}
use Rattle.std.specs.Prelude.{map, length}
use Rattle.slot_values.specs.Slots.{last_slot}
use Rattle.node_rules.specs.Slots.{first_empty}
use Rattle.paxos_votes.specs.Entries.{entry_of}
use Rattle.paxos_votes.proofs.learner.first_without_value.Given as goal

abbrev pub invariant-loop-passed : goal.invariant-loop-passed
invariant-loop-passed l = record {
  same : (k : ℕ) → k + l.passed ≡ length l.decided.entries → first_empty (length l.decided.entries) (map entry_of l.decided.entries) l.fn.from ≡ first_empty k (map entry_of l.decided.entries) l.slot;
  range : l.slot ≤ last_slot + 1;
}
