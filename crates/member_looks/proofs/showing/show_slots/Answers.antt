use Rattle.std.proofs.Common.{ap, ◌∙◌}
use Rattle.node_rules.specs.Node.{Node, promised}
use Rattle.member_looks.proofs.Seen.{list_is, slots_same}
use Rattle.member_looks.proofs.showing.show_slots.Goals as goal

pub returns : goal.returns
returns c = λ base a st.
    let l = list_is base a c.args.moment.now st c.parts.result.now c.list.result.now c.parts.ensures c.list.ensures in
    slots_same _ _ _ _ _ _ _ _ (c.inc.ensures base a st) (c.next.ensures ∙ ap (λ (n : Node). n.learner.next) (c.node.ensures base a st)) (c.taken.ensures ∙ l.taken) (c.promised.ensures ∙ ap promised (c.node-2.ensures base a st))
