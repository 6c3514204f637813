-- The leader so far, with what is left.
use Rattle.std.proofs.Common.{◌≡◌, drop}
use Rattle.std.specs.Prelude.{fold}
use Rattle.slot_values.specs.Log.{last_of}
use Rattle.node_rules.specs.Learner.{is_decided}
use Rattle.node_rules.specs.Leader.{take_offer}
use Rattle.paxos_node.proofs.leading.offer_each.Given as goal

abbrev pub invariant-loop-value : goal.invariant-loop-value
invariant-loop-value l = fold (take_offer (is_decided l.learner) (last_of l.turns.turns.reading)) l.leader (drop l.value-index l.values) ≡ fold (take_offer (is_decided l.learner) (last_of l.turns.turns.reading)) l.initial.leader l.values
