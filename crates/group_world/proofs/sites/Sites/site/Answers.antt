use Rattle.std.proofs.Common.{ap, sym, subst, ◌∙◌, slice_get}
use Rattle.group_world.specs.Sites.{HasSite, at_number, before}
use Rattle.group_world.proofs.Finding.{has_site, read_at}
use Rattle.group_world.proofs.sites.Sites.site.Goals as goal

pub returns : goal.returns
returns c ss h =
    let zs = c.self.inside.list.items in
    let got = read_at c.get.result c.deref.result.now c.place_of.result c.get.ensures.lookup.3 c.get.ensures.lookup.1 in
    let at = c.place_of.ensures ∙ ap (before c.args.server) c.deref-2.ensures.value in
    subst (HasSite (at_number c.args.server ss)) (sym (got ∙ (ap (λ l. slice_get l c.place_of.result) c.deref.ensures.value ∙ ap (slice_get zs) at))) (has_site c.args.server ss zs (rw c.self.view_is h))
