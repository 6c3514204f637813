use Rattle.std.proofs.Common.{ap, ◌∙◌}
use Rattle.node_rules.specs.Node.{kept_from}
use Rattle.group_rules.specs.declared.said.Look.TheVariants.{Kept}
use Rattle.member_looks.proofs.showing.show_kept.Goals as goal

pub returns : goal.returns
returns c = λ base a st. ap (λ i. Kept i c.kept_from.result) (c.inc.ensures base a st) ∙ ap (Kept a.me.inc) (c.kept_from.ensures ∙ ap kept_from (c.node.ensures base a st))
