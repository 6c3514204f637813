-- The joining, the parts and the tables have the Welcome, and then the mark tells it.
use Rattle.std.proofs.Common.{refl, ap, ◌∙◌}
use Rattle.group_rules.specs.declared.marks.Cause.TheVariants.{Welcomed}
use Rattle.paxos_forms.specs.declared.welcome.Welcome.{Welcome}
use Rattle.group_rules.specs.Events.{Enters}
use Rattle.group_rules.specs.Member.{push}
use Rattle.member_joining.specs.Asking.{welcomed}
use Rattle.member_moment.proofs.moment.Moment.enter.Goals as goal

pub returns : goal.returns
returns c = λ fits above. record {
  others = refl;
  joins = c.enter.ensures ∙ ap (λ e. welcomed e c.args.welcome.now.place) (c.in_ok-executed.ensures ∙ ap (λ t. t.executed) c.tables.ensures);
  parts = c.in_ok-enter.ensures;
  tables = λ a well t. c.stated.ensures (push (Enters c.args.welcome.now) a) Welcomed well refl (c.entered.ensures a c.args.welcome.now (ap (λ (w : Welcome). w.mode) c.welcome.view_is) (ap (λ (w : Welcome). w.primary) c.welcome.view_is) t);
  marks = c.in_ok-push.ensures.items;
}
