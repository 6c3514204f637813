use Rattle.std.proofs.Common.{◌∙◌, ap, map, refl, subst, sym}
use Rattle.group_rules.specs.Histories.{arranged}
use Rattle.group_rules.specs.Steps.{start}
use Rattle.member_messages.specs.Sending.{spelt}
use Rattle.member_ranges.specs.Ranges.{setup_with}
use Rattle.kept_server.specs.Keeping.{IsStored}
use Rattle.member_core.proofs.Acted.{started}
use Rattle.member_core.proofs.member.Member.start.Goals as goal

pub returns : goal.returns
returns c = λ y k.
    (let s = setup_with c.args.limits c.args.mode c.args.founders.now in
    let a = start s c.args.me y c.args.contact in
    let copied = c.in_ok-tables.ensures y k in
    let kept = subst (λ gs. IsStored y c.in_ok-tables.tables.executed c.in_ok-tables.tables.store gs) (sym c.as_slice.ensures.value) copied in
    let st = c.in_ok-moment.ensures s y c.requires.founding refl kept in
    started s c.args.me y c.args.contact _ _ refl (c.end_step-sent.ensures.stands a.life a st) (c.new.ensures y k) refl (c.in_ok-sent.ensures ∙ ap (λ ms. map spelt (arranged ms)) (c.end_step-sent.ensures.left a.life a st).1) st.rest.sent_range)
