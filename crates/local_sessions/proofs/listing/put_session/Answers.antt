-- The session goes to its place.
use Rattle.std.proofs.Common.{◌≡◌, not, arith, sym, ◌∙◌, ap}
use Rattle.std.specs.Prelude.{nat_lt}
use Rattle.std.proofs.lemmas.List.Sums.{prefix_len-le-length}
use Rattle.local_sessions.specs.Standing.{Session}
use Rattle.local_sessions.proofs.InList.{below, inserts}
use Rattle.local_sessions.proofs.listing.put_session.Goals as goal

pub insert-requires : goal.insert-requires
insert-requires c =
    let at : c.place_of-at.result ≡ below c.args.session.session c.args.list.now.items = c.place_of-at.ensures ∙ ap (λ l. below c.args.session.session l) c.deref.ensures.value in
    omega (arith, prefix_len-le-length (λ (x : Session). not (nat_lt c.args.session.session x.session)) c.args.list.now.items, c.args.list.now.ok.0)

pub returns-clause-ok : goal.returns-clause-ok
returns-clause-ok c =
    let at : c.place_of-at.result ≡ below c.args.session.session c.args.list.now.items = c.place_of-at.ensures ∙ ap (λ l. below c.args.session.session l) c.deref.ensures.value in
    c.in_ok-insert.ensures.items ∙ sym (inserts c.args.list.now.items c.args.session c.place_of-at.result at)
