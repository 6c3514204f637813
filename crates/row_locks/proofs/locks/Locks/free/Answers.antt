-- What the session holds is in its list, so it holds nothing after that is unlocked.
use Rattle.std.proofs.Common.{◌≡◌, Some, ap, sym, ◌∙◌}
use Rattle.key_items.specs.declared.item.Item.{Item}
use Rattle.row_locks.specs.Locking.{without_session, session_at}
use Rattle.row_locks.proofs.KeyReads.{held, left_in, all_left, none_left}
use Rattle.row_locks.proofs.Lists.{listed_still}
use Rattle.row_locks.proofs.locks.Locks.free.Goals as goal

own : (c : goal.After-drop-items) (j : Item) → held c.unlock_own.new.keys.entries j ≡ without_session c.args.session (held c.self.inside.keys.entries j)
own c j =
    let items = c.deref.ensures.value in
    c.unlock_own.ensures j
    ∙ (ap (λ xs. left_in xs c.args.session (held c.self.inside.keys.entries) j) items
    ∙ all_left c.self.inside.keys.entries c.self.inside.listed.entries c.args.session c.in-Some.items c.self.invariant (sym c.remove.ensures.value ∙ c.in-Some.is) j)

pub invariant_of-self : goal.invariant_of-self
invariant_of-self c =
    listed_still c.self.inside.keys.entries c.unlock_own.new.keys.entries c.self.inside.listed.entries c.remove.new.self.entries c.args.session c.self.invariant c.remove.ensures.updates.0
    (λ j. own c j)

pub returns-in-Some-clause-keys : goal.returns-in-Some-clause-keys
returns-in-Some-clause-keys c j = rw (← c.self.view_is) (own c j)

pub returns-in_default-clause-keys : goal.returns-in_default-clause-keys
returns-in_default-clause-keys c j =
    rw (← c.self.view_is) (none_left c.self.inside.keys.entries c.self.inside.listed.entries c.args.session c.self.invariant (sym c.remove.ensures.value ∙ c.in_default.is) j)
