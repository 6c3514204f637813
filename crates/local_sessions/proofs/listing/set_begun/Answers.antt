-- The one at the index is changed.
use Rattle.std.proofs.Common.{◌≤◌, length, sym, arith}
use Rattle.local_sessions.specs.Standing.{begins}
use Rattle.local_sessions.proofs.InList.{before, changed_there, changed_nowhere}
use Rattle.local_sessions.proofs.listing.set_begun.Goals as goal

pub returns-then-at-list : goal.returns-then-at-list
returns-then-at-list c = sym (changed_there c.args.session (begins c.args.set) c.args.list.now c.index_of-at.result c.index-list-at.result c.index_of-at.ensures c.if-at-list.true)

pub returns-else-at-list : goal.returns-else-at-list
returns-else-at-list c =
    let none : length c.args.list.now ≤ before c.args.session c.args.list.now = omega (arith, c.index_of-at.ensures, c.if-at-list.false) in
    sym (changed_nowhere c.args.session (begins c.args.set) c.args.list.now none)
