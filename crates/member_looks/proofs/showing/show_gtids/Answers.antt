use Rattle.std.proofs.Common.{ap, ◌∙◌}
use Rattle.group_rules.specs.declared.said.Look.TheVariants.{Gtids}
use Rattle.member_looks.proofs.showing.show_gtids.Goals as goal

pub returns : goal.returns
returns c = λ base a st. ap (λ i. Gtids i c.in_ok-try_copy.field-0) (c.inc.ensures base a st) ∙ ap (Gtids a.me.inc) (c.in_ok-try_copy.ensures ∙ c.executed.ensures base a st)
