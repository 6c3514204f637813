-- Its site and its server stand among the others, and its state is said.
use Rattle.std.proofs.Common.{◌++◌, ◌∷◌, [], refl, sym, ap, subst, ◌∙◌}
use Rattle.gr_ids.specs.declared.levels.MemberState.TheVariants.{Online}
use Rattle.group_rules.specs.declared.marks.Cause.TheVariants.{Founded}
use Rattle.group_rules.specs.declared.marks.Mark.TheVariants.{State}
use Rattle.group_rules.specs.declared.said.Said.TheVariants.{Marked}
use Rattle.group_rules.specs.Events.{Setup}
use Rattle.group_rules.specs.Steps.{found}
use Rattle.group_rules.specs.World.{Server, with_server}
use Rattle.member_ranges.specs.Ranges.{setup_with}
use Rattle.member_core.specs.Standing.{IsMember}
use Rattle.group_world.specs.Sites.{AreSites}
use Rattle.group_world.proofs.Founded.{founder_at, me_stored, one_founded}
use Rattle.group_world.proofs.stage.Stage.found_at.Goals as goal

pub returns-clause-founded : goal.returns-clause-founded
returns-clause-founded c w before a =
    let t : Setup = setup_with c.args.founding.now.limits c.args.founding.now.mode c.args.founding.now.founders.items in
    let me = c.args.me.now in
    let s : Server = founder_at t me in
    let kept = c.in_ok-enlist.ensures.beside in
    let member = subst (λ js. IsMember (found (setup_with c.args.founding.now.limits c.args.founding.now.mode js) me) c.in_ok-member.member) c.deref.ensures.value c.in_ok-member.ensures in
    one_founded t me w before c.args.self.now _ c.uuid_fits.ensures a
    (c.in_ok-enlist.ensures.listed w.servers s a.rising a.servers refl)
    (subst (AreSites (with_server w.servers s)) (sym (ap (λ x. x.sites) kept)) (c.in_ok-put.ensures w.servers s a.rising a.sites (record { number = refl; starts = refl; stay = (found t me, refl, member, me_stored t me) })))
    (c.in_ok-push.ensures.items ∙ ap (λ x. x.said.items ++ Marked me.inc (State Online Founded) ∷ []) kept)
