-- The item is put behind the writer's others, or is its first one.
use Rattle.std.proofs.Common.{Some, None, refl, sym}
use Rattle.std.proofs.lemmas.Result.{on_ok_weaker}
use Rattle.certifier.proofs.Noted.{grown, more_noted, new_noted, pushed}
use Rattle.certifier.proofs.noting.note.Goals as goal

pub returns-in-Some-clause-keeps : goal.returns-in-Some-clause-keeps
returns-in-Some-clause-keeps c =
    let was = sym c.in-Some.ensures.value in
    let put = (c.get_mut.follows.holds c.push_item.new.items).3 (rw was refl) in
    more_noted c.args.written.now.entries (c.get_mut.follows.lender c.push_item.new.items).entries c.args.gtid (Some c.in-Some.items.now) c.push_item.new.items was
    (grown c.push_item.result c.in-Some.items.now.items c.push_item.new.items.items c.in_ok-item.item c.push_item.ensures.ok c.push_item.ensures.err) put.0

pub returns-in-Some-clause-ok : goal.returns-in-Some-clause-ok
returns-in-Some-clause-ok c =
    let was = sym c.in-Some.ensures.value in
    let put = (c.get_mut.follows.holds c.push_item.new.items).3 (rw was refl) in
    on_ok_weaker c.push_item.result
    (λ e. new_noted c.args.written.now.entries (c.get_mut.follows.lender c.push_item.new.items).entries c.args.gtid c.push_item.new.items c.args.item.now
    (pushed c.in-Some.items.now.items c.push_item.new.items.items c.in_ok-item.item c.args.item.now c.in_ok-item.ensures e) put.0)
    c.push_item.ensures.ok

pub returns-clause-keeps : goal.returns-clause-keeps
returns-clause-keeps c = more_noted c.args.written.now.entries c.insert.new.self.entries c.args.gtid None c.push.new.self
    (sym c.in_default.ensures.value) (λ i n. absurd n) (λ q. rw c.get_mut.follows.holds-at-none at (c.in_ok-insert.ensures.updates.0 q))
