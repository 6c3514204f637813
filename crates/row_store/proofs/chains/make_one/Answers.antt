-- The chain keeps its versions and gets room; a new chain has none.
use Rattle.std.proofs.Common.{◌≡◌, Some, ap, sym, refl, ◌∙◌, arith}
use Rattle.row_store.proofs.ChainReads.{Changes, at, versions_in, spare_in, same_versions, more_spare, spare_here}
use Rattle.row_store.proofs.chains.make_one.Goals as goal

pub returns-in_err-reserve-in-Some-clause-same : goal.returns-in_err-reserve-in-Some-clause-same
returns-in_err-reserve-in-Some-clause-same c i =
    let written = (c.get_mut.follows.holds c.reserve.new.self).3 (rw (sym c.in-Some.ensures.value) refl) in
    same_versions c.args.chains.now.entries (c.get_mut.follows.lender c.reserve.new.self).entries c.args.item.now (Some c.reserve.new.self) written.0
    (c.in_err-reserve-in-Some.ensures.items ∙ ap versions_in c.in-Some.ensures.value) i

pub returns-in_err-reserve-in-Some-clause-more : goal.returns-in_err-reserve-in-Some-clause-more
returns-in_err-reserve-in-Some-clause-more c i =
    let written = (c.get_mut.follows.holds c.reserve.new.self).3 (rw (sym c.in-Some.ensures.value) refl) in
    let was : spare_in (at c.args.chains.now.entries c.args.item.now) ≡ spare_in (Some c.in-Some.versions.now) = ap spare_in (sym c.in-Some.ensures.value) in
    more_spare c.args.chains.now.entries (c.get_mut.follows.lender c.reserve.new.self).entries c.args.item.now (Some c.reserve.new.self) written.0
    (omega (arith, was, c.in_err-reserve-in-Some.ensures.capacity, c.in_err-reserve-in-Some.ensures.len)) i

pub returns-in_ok-reserve-in-Some-clause-same : goal.returns-in_ok-reserve-in-Some-clause-same
returns-in_ok-reserve-in-Some-clause-same c i =
    let written = (c.get_mut.follows.holds c.reserve.new.self).3 (rw (sym c.in-Some.ensures.value) refl) in
    same_versions c.args.chains.now.entries (c.get_mut.follows.lender c.reserve.new.self).entries c.args.item.now (Some c.reserve.new.self) written.0
    (c.in_ok-reserve-in-Some.ensures.items ∙ ap versions_in c.in-Some.ensures.value) i

pub returns-in_ok-reserve-in-Some-clause-more : goal.returns-in_ok-reserve-in-Some-clause-more
returns-in_ok-reserve-in-Some-clause-more c i =
    let written = (c.get_mut.follows.holds c.reserve.new.self).3 (rw (sym c.in-Some.ensures.value) refl) in
    let was : spare_in (at c.args.chains.now.entries c.args.item.now) ≡ spare_in (Some c.in-Some.versions.now) = ap spare_in (sym c.in-Some.ensures.value) in
    more_spare c.args.chains.now.entries (c.get_mut.follows.lender c.reserve.new.self).entries c.args.item.now (Some c.reserve.new.self) written.0
    (omega (arith, was, c.in_ok-reserve-in-Some.ensures.capacity, c.in_ok-reserve-in-Some.ensures.len)) i

pub returns-in_ok-reserve-in-Some-clause-ok : goal.returns-in_ok-reserve-in-Some-clause-ok
returns-in_ok-reserve-in-Some-clause-ok c =
    let written = (c.get_mut.follows.holds c.reserve.new.self).3 (rw (sym c.in-Some.ensures.value) refl) in
    let here = spare_here c.args.chains.now.entries (c.get_mut.follows.lender c.reserve.new.self).entries c.args.item.now (Some c.reserve.new.self) written.0 in
    omega (arith, here, c.in_ok-reserve-in-Some.ensures.ok)

added : (c : goal.Joined-branch-5) → Changes c.args.chains.now.entries c.insert.new.self.entries c.args.item.now (Some c.reserve-in-None.new.self)
added c = rw c.in_ok-try_copy-in-None.ensures at (rw c.get_mut.follows.holds-at-none at c.in_ok-insert-in-None.ensures.updates.0)

pub returns-in_ok-insert-in-None-clause-same : goal.returns-in_ok-insert-in-None-clause-same
returns-in_ok-insert-in-None-clause-same c i =
    same_versions c.args.chains.now.entries c.insert.new.self.entries c.args.item.now (Some c.reserve-in-None.new.self) (added c)
    (c.in_ok-reserve-in-None.ensures.items ∙ (c.new-versions.ensures.items ∙ ap versions_in c.in-None.ensures.value)) i

pub returns-in_ok-insert-in-None-clause-more : goal.returns-in_ok-insert-in-None-clause-more
returns-in_ok-insert-in-None-clause-more c i =
    let was : spare_in (at c.args.chains.now.entries c.args.item.now) ≡ 0 = ap spare_in (sym c.in-None.ensures.value) in
    more_spare c.args.chains.now.entries c.insert.new.self.entries c.args.item.now (Some c.reserve-in-None.new.self) (added c) (omega (arith, was)) i

pub returns-in_ok-insert-in-None-clause-ok : goal.returns-in_ok-insert-in-None-clause-ok
returns-in_ok-insert-in-None-clause-ok c =
    let here = spare_here c.args.chains.now.entries c.insert.new.self.entries c.args.item.now (Some c.reserve-in-None.new.self) (added c) in
    omega (arith, here, c.in_ok-reserve-in-None.ensures.ok)
