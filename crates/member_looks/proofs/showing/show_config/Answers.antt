use Rattle.std.proofs.Common.{ap, ◌∙◌}
use Rattle.node_rules.specs.Node.{Node, node_config}
use Rattle.group_rules.specs.declared.said.Look.TheVariants.{Config}
use Rattle.member_looks.proofs.showing.show_config.Goals as goal

pub returns : goal.returns
returns c = λ base a st.
    ap (λ i. Config i c.args.slot c.in_ok-copied_config.field-0) (c.inc.ensures base a st)
    ∙ ap (λ m. Config a.me.inc c.args.slot m) (c.in_ok-copied_config.ensures ∙ (c.config.ensures ∙ ap (λ (n : Node). node_config n c.args.slot) (c.node.ensures base a st)))
