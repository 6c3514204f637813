-- The site of the server changes, if it is there.
use Rattle.std.proofs.Common.{◌≡◌, ap, refl, ◌∙◌}
use Rattle.group_world.specs.Changing.{stopped}
use Rattle.group_world.specs.Sites.{before}
use Rattle.group_world.proofs.Altered.{changed, none_changes}
use Rattle.group_world.proofs.sites.Sites.stop.Goals as goal

pub returns-in_default : goal.returns-in_default
returns-in_default c =
    let at : c.place_of-at.result ≡ before c.args.server c.self.inside.list.items = c.place_of-at.ensures ∙ ap (before c.args.server) c.deref.ensures.value in
    rw (← c.self.view_is) (none_changes stopped c.args.server c.place_of-at.result c.self.inside.list.items at c.in_default.ensures.item.3)

pub returns : goal.returns
returns c =
    let at : c.place_of-at.result ≡ before c.args.server c.self.inside.list.items = c.place_of-at.ensures ∙ ap (before c.args.server) c.deref.ensures.value in
    rw (← c.self.view_is) (changed stopped (λ s. refl) c.args.server c.place_of-at.result c.self.inside.list.items c.in-Some.site.now c.stop.new.self c.stop.result at c.in-Some.ensures.item.3.0 c.in-Some.ensures.value c.stop.ensures)
