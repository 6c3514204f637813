-- The site of the server begins, if it is there.
use Rattle.std.proofs.Common.{◌≡◌, ap, sym, subst, ◌∙◌}
use Rattle.group_world.specs.Changing.{is_busy}
use Rattle.group_world.specs.Sites.{AreSites, before}
use Rattle.member_ranges.specs.Ranges.{setup_with}
use Rattle.group_world.proofs.Altered.{begins, missing}
use Rattle.group_world.proofs.Results.{if_ok}
use Rattle.group_world.proofs.sites.Sites.start.Goals as goal

pub returns-in_default : goal.returns-in_default
returns-in_default c ss r a k =
    let at : c.place_of-at.result ≡ before c.args.server.number c.self.inside.list.items = c.place_of-at.ensures ∙ ap (before c.args.server.number) c.deref.ensures.value in
    let are : AreSites ss c.self.inside.list.items = subst (AreSites ss) (sym c.self.view_is) a in
    (ap is_busy (missing c.args.server.number c.place_of-at.result ss c.self.inside.list.items at c.in_default.ensures.item.3 are), are)

pub returns : goal.returns
returns c =
    let zs = c.self.inside.list.items in
    let at : c.place_of-at.result ≡ before c.args.server.number zs = c.place_of-at.ensures ∙ ap (before c.args.server.number) c.deref.ensures.value in
    rw (← c.self.view_is)
    (begins (setup_with c.args.founding.now.limits c.args.founding.now.mode c.args.founding.now.founders.items) c.args.contact c.args.server c.place_of-at.result zs c.in-Some.site.now c.start.new.self c.start.result at
    c.in-Some.ensures.item.3.0 c.in-Some.ensures.value (if_ok c.start.result c.start.ensures (λ o k s h d. k s h (c.in_ok-me.ensures s h d))))
