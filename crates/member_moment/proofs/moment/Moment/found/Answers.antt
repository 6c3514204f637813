-- A founder's parts are those of the founding.
use Rattle.std.proofs.Common.{refl, ap, ◌∙◌}
use Rattle.node_rules.specs.Node.{founder}
use Rattle.group_rules.specs.View.{View}
use Rattle.member_ranges.specs.Ranges.{setup_with}
use Rattle.member_moment.proofs.Founded.{founded}
use Rattle.member_moment.proofs.moment.Moment.found.Goals as goal

pub returns : goal.returns
returns c =
    let s = setup_with c.args.limits c.args.mode c.args.founders.now in
    let view = c.view-view.ensures ∙ (ap (λ l. l.view) c.list.ensures ∙ c.in_ok-parts.ensures.list.view) in
    founded s c.args.me _ c.requires.founding c.requires.founder refl refl refl
    (c.in_ok-node.ensures ∙ ap (λ is. founder (record { founders = is; horizon = c.args.limits.horizon }) c.args.me.inc) (c.deref.ensures.value ∙ c.in_ok-incs.ensures))
    c.in_ok-parts.ensures
    (c.founded-tables.ensures s c.args.me refl (c.mode.ensures ∙ ap (λ (v : View). v.mode) view) (c.primary.ensures ∙ ap (λ (v : View). v.primary) view))
    c.new.ensures c.new-2.ensures c.new-3.ensures.items c.new-4.ensures.items c.new-5.ensures.items
