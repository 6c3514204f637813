-- The key is the session's, and stands in its list.
use Rattle.std.proofs.Common.{◌≡◌, Some, ap, sym, ◌∙◌}
use Rattle.key_items.specs.declared.item.Item.{Item}
use Rattle.row_locks.specs.Locking.{locked_by}
use Rattle.row_locks.proofs.KeyReads.{held, changed}
use Rattle.row_locks.proofs.Lists.{listed_with}
use Rattle.row_locks.proofs.locks.Locks.give.Goals as goal

given : (c : goal.In_ok-insert) (j : Item) → held c.insert.new.self.entries j ≡ locked_by c.args.session c.args.item.now (held c.self.inside.keys.entries) j
given c j = rw (sym c.in_ok-try_copy-2.ensures) (changed c.self.inside.keys.entries c.insert.new.self.entries c.in_ok-try_copy-2.field-0 (Some c.args.session) c.in_ok-insert.ensures.updates.0 j)

pub invariant_of-self-2 : goal.invariant_of-self-2
invariant_of-self-2 c =
    listed_with c.self.inside.keys.entries c.insert.new.self.entries c.self.inside.listed.entries c.list_key.new.listed.entries c.args.session c.args.item.now c.self.invariant
    c.in_ok-list_key.ensures.kept (rw c.in_ok-try_copy.ensures at c.in_ok-list_key.ensures.ok) (given c)

pub returns-clause-ok : goal.returns-clause-ok
returns-clause-ok c j = rw (← c.self.view_is) (given c j)
