use Rattle.std.proofs.Common.{ap, ◌∙◌}
use Rattle.group_rules.specs.View.{online_incs}
use Rattle.member_moment.proofs.Minded.{leads_so}
use Rattle.member_moment.proofs.moment.Moment.leads.Goals as goal

pub returns : goal.returns
returns c = λ base a st. c.leads.ensures ∙ leads_so base a c.args.self.now st c.watch.result.now c.deref.result.now c.watch.ensures (c.deref.ensures.value ∙ (c.in_ok-online.ensures ∙ ap (λ (l : _). online_incs l.view) c.list.ensures))
