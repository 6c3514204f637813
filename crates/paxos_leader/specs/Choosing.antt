-- What a leader proposes next, by the proposing rule.
-- (Lamport, "Paxos Made Simple", section 2.2 for the value; section 3 for the no-op that fills a gap.)
use Rattle.std.specs.Prelude.{ℕ, Bool, Option, Some, None, if◌then◌else◌}
use Rattle.gr_ids.specs.declared.names.Ballot.{Ballot}
use Rattle.slot_values.specs.declared.value.Vote.{Vote}
use Rattle.slot_values.specs.declared.value.Value.{Value}
use Rattle.slot_values.specs.Turns.{Taken}
use Rattle.node_rules.specs.Learner.{Learner, is_decided}
use Rattle.node_rules.specs.Proposing.{decided_above}
use Rattle.node_rules.specs.Leader.{Leader, Choice, choice, noop, proposing}
use Rattle.paxos_leader.specs.Parts.{standing}

-- in one of the h slots from the learner's least undecided one on
abbrev pub next_choice : Leader → Learner → Taken → ℕ → Option Choice
next_choice l d w h = choice (is_decided d) (decided_above d) (Some (standing w)) l h d.next

abbrev pub with_choice : Leader → Option Choice → Leader
with_choice l None = l
with_choice l (Some c) = proposing l c

-- the value that the votes reported or a gap below something later force
abbrev pub forced : Bool → Ballot → Option Vote → Option Value
forced later b (Some x) = Some x.value
forced later b None = if later then Some (noop b.inc) else None
