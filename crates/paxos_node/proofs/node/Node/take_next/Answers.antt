-- The next slot, as it was found.
use Rattle.std.proofs.Common.{◌≡◌, Option, Some, sym, ap, ◌∙◌}
use Rattle.node_rules.specs.Learner.{next_entry}
use Rattle.node_rules.specs.Node.{Node}
use Rattle.node_rules.specs.Slots.{Entry}
use Rattle.node_rules.specs.Taking.{take_next}
use Rattle.paxos_node.proofs.Takes.{entry_some, took_is}
use Rattle.paxos_node.proofs.node.Node.take_next.Goals as goal

pub returns-in-Some-2-clause-taken : goal.returns-in-Some-2-clause-taken
returns-in-Some-2-clause-taken c =
    let slot : c.slot-slot.result ≡ c.args.self.now.learner.slot = c.slot-slot.ensures ∙ ap (λ (n : Node). n.learner.slot) c.self.view_is in
    let entry : next_entry c.args.self.now.learner ≡ Some (record { slot = c.slot-slot.result; value = c.in-Some.value }) = rw slot (entry_some c.args.self.now.learner c.in-Some.value (sym c.in-Some.is ∙ c.in_ok-value.ensures)) in
    sym (took_is c.args.self.now (record { slot = c.slot-slot.result; value = c.in-Some.value }) c.in-Some-2.kept entry (sym c.in-Some-2.is ∙ c.in_ok-kept.ensures.kept))

pub returns-in-Some-2-clause-node : goal.returns-in-Some-2-clause-node
returns-in-Some-2-clause-node c =
    let slot : c.slot-slot.result ≡ c.args.self.now.learner.slot = c.slot-slot.ensures ∙ ap (λ (n : Node). n.learner.slot) c.self.view_is in
    let entry : next_entry c.args.self.now.learner ≡ Some (record { slot = c.slot-slot.result; value = c.in-Some.value }) = rw slot (entry_some c.args.self.now.learner c.in-Some.value (sym c.in-Some.is ∙ c.in_ok-value.ensures)) in
    c.in_ok-kept.ensures.node ∙ ap (λ (o : Option Entry). (take_next c.args.self.now c.args.self.now.turns o).node) (sym entry)
