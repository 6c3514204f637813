-- In place of the one of its number, or behind those of lower numbers.
use Rattle.std.proofs.Common.{◌≡◌, ap, arith, not, sym, subst, ◌∙◌}
use Rattle.std.specs.Prelude.{nat_lt}
use Rattle.std.proofs.lemmas.List.Sums.{prefix_len-le-length}
use Rattle.group_world.specs.Sites.{AreSites, before, under}
use Rattle.group_world.specs.declared.site.Site.{Site}
use Rattle.group_world.proofs.Altered.{insert_at, missing, put_at, there}
use Rattle.group_world.proofs.sites.Sites.put.Goals as goal

pub returns-in-Some : goal.returns-in-Some
returns-in-Some c =
    let at : c.place_of-at.result ≡ before c.args.site.number c.self.inside.list.items = c.place_of-at.ensures ∙ ap (before c.args.site.number) c.deref.ensures.value in
    rw (← c.self.view_is) (λ ss s r a k.
    put_at c.place_of-at.result c.self.inside.list.items c.in-Some.there.now c.args.site s ss
    (there c.args.site.number c.place_of-at.result c.self.inside.list.items c.in-Some.there.now at c.in-Some.ensures.item.3.0 c.in-Some.ensures.value) at r a k)

pub insert-requires : goal.insert-requires
insert-requires c = omega (arith, prefix_len-le-length (λ (z : Site). not (nat_lt c.args.site.number z.number)) c.deref-2.result.now, c.place_behind-at.ensures, c.deref-2.ensures.len)

pub returns : goal.returns
returns c ss s r a k =
    let zs = c.self.inside.list.items in
    let at : c.place_of-at.result ≡ before c.args.site.number zs = c.place_of-at.ensures ∙ ap (before c.args.site.number) c.deref.ensures.value in
    let behind : c.place_behind-at.result ≡ under c.args.site.number zs = c.place_behind-at.ensures ∙ ap (under c.args.site.number) c.deref-2.ensures.value in
    let are : AreSites ss zs = subst (AreSites ss) (sym c.self.view_is) a in
    let none = missing c.args.site.number c.place_of-at.result ss zs at c.in_default.ensures.item.3 are in
    rw c.in_ok-insert.ensures.items (insert_at c.place_behind-at.result zs c.args.site s ss none behind are k)
