-- The session goes to its place, where it isn't there already.
use Rattle.std.proofs.Common.{◌≡◌, Some, arith, sym, ap, slice_get, ◌∙◌}
use Rattle.std.specs.Prelude.{nat_lt}
use Rattle.std.proofs.lemmas.List.Sums.{prefix_len-le-length}
use Rattle.row_locks.proofs.Losers.{before, there, missing}
use Rattle.row_locks.proofs.keys.add_session.Goals as goal

pub returns-then-is_session : goal.returns-then-is_session
returns-then-is_session c =
    let at : c.index_of-at.result ≡ before c.args.session c.args.sessions.now.items = c.index_of-at.ensures ∙ ap (λ l. before c.args.session l) c.deref.ensures.value in
    let is : slice_get c.args.sessions.now.items c.index_of-at.result ≡ Some c.args.session =
    ap (λ l. slice_get l c.index_of-at.result) (sym c.deref-2.ensures.value) ∙ (sym c.session_at_index.ensures ∙ c.is_session.ensures.yes c.if-is_session.true) in
    sym (there c.args.sessions.now.items c.args.session c.index_of-at.result at is)

pub insert-requires : goal.insert-requires
insert-requires c =
    let at : c.index_of-at.result ≡ before c.args.session c.args.sessions.now.items = c.index_of-at.ensures ∙ ap (λ l. before c.args.session l) c.deref.ensures.value in
    omega (arith, prefix_len-le-length (λ s. nat_lt s c.args.session) c.args.sessions.now.items, c.args.sessions.now.ok.0)

pub returns : goal.returns
returns c =
    let at : c.index_of-at.result ≡ before c.args.session c.args.sessions.now.items = c.index_of-at.ensures ∙ ap (λ l. before c.args.session l) c.deref.ensures.value in
    c.in_ok-insert.ensures.items
    ∙ sym (missing c.args.sessions.now.items c.args.session c.index_of-at.result at
    (λ is. c.is_session.ensures.no c.if-is_session.false (c.session_at_index.ensures ∙ (ap (λ l. slice_get l c.index_of-at.result) c.deref-2.ensures.value ∙ is))))
