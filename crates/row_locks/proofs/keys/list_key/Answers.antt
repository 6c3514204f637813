-- The list at the session is longer by the key.
use Rattle.std.proofs.Common.{◌≡◌, Some, [], ◌∷◌, true, false, sym, ap, refl, ◌∙◌}
use Rattle.std.proofs.lemmas.Bool.{true≢false}
use Rattle.row_locks.specs.Inside.{is_in}
use Rattle.key_items.specs.Items.{has_item}
use Rattle.row_locks.proofs.Lists.{longer, now_listed, has_more, has_last}
use Rattle.row_locks.proofs.keys.list_key.Goals as goal

pub returns-in_err-push-in-Some-clause-kept : goal.returns-in_err-push-in-Some-clause-kept
returns-in_err-push-in-Some-clause-kept c s i h =
    let written = (c.get_mut.follows.holds c.push.new.self).3 (rw (sym c.in-Some.ensures.value) refl) in
    longer c.args.listed.now.entries (c.get_mut.follows.lender c.push.new.self).entries c.args.session c.push.new.self written.0
    (λ j l. rw c.in_err-push-in-Some.ensures.items (rw (sym c.in-Some.ensures.value) at l)) s i h

pub returns-in_ok-push-in-Some-clause-kept : goal.returns-in_ok-push-in-Some-clause-kept
returns-in_ok-push-in-Some-clause-kept c s i h =
    let written = (c.get_mut.follows.holds c.push.new.self).3 (rw (sym c.in-Some.ensures.value) refl) in
    longer c.args.listed.now.entries (c.get_mut.follows.lender c.push.new.self).entries c.args.session c.push.new.self written.0
    (λ j l. rw c.in_ok-push-in-Some.ensures.items (has_more c.in-Some.items.now.items (c.args.item ∷ []) j (rw (sym c.in-Some.ensures.value) at l))) s i h

pub returns-in_ok-push-in-Some-clause-ok : goal.returns-in_ok-push-in-Some-clause-ok
returns-in_ok-push-in-Some-clause-ok c =
    let written = (c.get_mut.follows.holds c.push.new.self).3 (rw (sym c.in-Some.ensures.value) refl) in
    now_listed c.args.listed.now.entries (c.get_mut.follows.lender c.push.new.self).entries c.args.session c.push.new.self c.args.item written.0
    (rw c.in_ok-push-in-Some.ensures.items (has_last c.in-Some.items.now.items c.args.item))

pub returns-in_ok-insert-in-None-clause-kept : goal.returns-in_ok-insert-in-None-clause-kept
returns-in_ok-insert-in-None-clause-kept c s i h =
    let was = c.get_mut.follows.holds-at-none in
    longer c.get_mut.follows.lender-at-none.entries c.insert.new.self.entries c.args.session c.push-in-None.new.self c.in_ok-insert-in-None.ensures.updates.0
    (λ j l. absurd (let none : false ≡ true = rw (sym c.in-None.ensures.value) at (rw was at l) in true≢false (sym none))) s i (rw was h)
