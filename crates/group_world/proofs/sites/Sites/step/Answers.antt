use Rattle.std.proofs.Common.{◌≡◌, ◌≤◌, length, None, slice_get, ap, sym, subst, ◌∙◌}
use Rattle.std.proofs.lemmas.Option.{slice_get_past}
use Rattle.member_core.specs.Standing.{event_of}
use Rattle.group_rules.specs.World.{running_of}
use Rattle.group_world.specs.Sites.{AreSites, before}
use Rattle.group_world.proofs.Finding.{absent}
use Rattle.group_world.proofs.Stepped.{stepped}
use Rattle.group_world.proofs.sites.Sites.step.Goals as goal

pub returns-in_default : goal.returns-in_default
returns-in_default c ss r h =
    let at : c.place_of-at.result ≡ before c.args.number c.self.inside.list.items = c.place_of-at.ensures ∙ ap (before c.args.number) c.deref.ensures.value in
    let past : length c.self.inside.list.items ≤ c.place_of-at.result = c.in_default.ensures.item.3 in
    let none : slice_get c.self.inside.list.items (before c.args.number c.self.inside.list.items) ≡ None = subst (λ k. slice_get c.self.inside.list.items k ≡ None) at (slice_get_past c.self.inside.list.items c.place_of-at.result past) in
    let are : AreSites ss c.self.inside.list.items = subst (AreSites ss) (sym c.self.view_is) h in
    (ap running_of (absent c.args.number ss c.self.inside.list.items are none), are)

pub returns : goal.returns
returns c =
    let at : c.place_of-at.result ≡ before c.args.number c.self.inside.list.items = c.place_of-at.ensures ∙ ap (before c.args.number) c.deref.ensures.value in
    rw (← c.self.view_is) (stepped c.args.number c.place_of-at.result (event_of c.args.event) c.self.inside.list.items c.in-Some.site.now c.step.new.self c.step.result at c.in-Some.ensures.item.3.0 c.in-Some.ensures.value c.step.ensures)
