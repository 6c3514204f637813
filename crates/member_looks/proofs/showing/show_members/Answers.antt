use Rattle.std.proofs.Common.{ap, ◌∙◌}
use Rattle.group_rules.specs.Life.{view}
use Rattle.group_rules.specs.View.{View}
use Rattle.member_parts.specs.declared.parts.MemberParts.{MemberParts}
use Rattle.member_looks.proofs.Seen.{list_is, members_are, members_same}
use Rattle.member_looks.proofs.showing.show_members.Goals as goal

pub returns : goal.returns
returns c = λ base a st.
    let l = list_is base a c.args.moment.now st c.parts.result.now c.list.result.now c.parts.ensures c.list.ensures in
    let v = c.view-view.ensures ∙ l.view in
    let shown = members_are base a c.args.moment.now st _ _ _ _ _ c.view-view.result.now (view a.setup a.life)
    (c.watch.ensures ∙ ap (λ (p : MemberParts). p.watch) c.parts-2.ensures) (c.inc.ensures base a st) (c.state.ensures base a st) c.primary.ensures c.seats.ensures v in
    members_same _ _ _ _ _ _ _ _ (c.inc-2.ensures base a st) (c.from_vec.ensures ∙ (c.in_ok-members.ensures ∙ shown))
    (c.number.ensures ∙ ap (λ (y : View). y.number) v) (c.mode.ensures ∙ ap (λ (y : View). y.mode) v)
