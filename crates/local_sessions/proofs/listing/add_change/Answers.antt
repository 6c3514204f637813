-- The one at the index is changed.
use Rattle.std.proofs.Common.{◌≤◌, length, sym, arith}
use Rattle.local_sessions.specs.Standing.{with_change}
use Rattle.local_sessions.proofs.InList.{before, changed_there, changed_nowhere}
use Rattle.local_sessions.proofs.listing.add_change.Goals as goal

pub returns-in_ok-push-clause-ok : goal.returns-in_ok-push-clause-ok
returns-in_ok-push-clause-ok c = rw c.in_ok-push.ensures.ok (sym (changed_there c.args.session (with_change c.args.change) c.args.list.now c.index_of-at.result c.index-list-at.result c.index_of-at.ensures c.if-at-list.true))

pub returns-else-at-list-clause-ok : goal.returns-else-at-list-clause-ok
returns-else-at-list-clause-ok c =
    let none : length c.args.list.now ≤ before c.args.session c.args.list.now = omega (arith, c.index_of-at.ensures, c.if-at-list.false) in
    sym (changed_nowhere c.args.session (with_change c.args.change) c.args.list.now none)
