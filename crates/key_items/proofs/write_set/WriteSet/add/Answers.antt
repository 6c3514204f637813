use Rattle.std.proofs.Common.{ap, sym, not, ◌∙◌}
use Rattle.key_items.specs.Items.{has_item, with_item}
use Rattle.key_items.proofs.Sets.{is_found, is_missing, ascend-with_item}
use Rattle.key_items.proofs.write_set.WriteSet.add.Goals as goal

pub invariant_of-self-in-Err : goal.invariant_of-self-in-Err
invariant_of-self-in-Err c =
    let missing = is_missing c.self.inside.items.items c.args.item c.in-Err.at c.self.invariant (rw c.deref.ensures.value at c.in-Err.ensures.bound) (rw c.deref.ensures.value at c.in-Err.ensures.position) in
    rw (c.in_ok-insert-in-Err.ensures.items, ← missing.0) (ascend-with_item c.self.inside.items.items c.args.item c.self.invariant)

pub returns-in-Ok-clause-ok : goal.returns-in-Ok-clause-ok
returns-in-Ok-clause-ok c =
    let found = is_found c.self.inside.items.items c.args.item c.in-Ok.field-0 c.self.invariant (rw c.deref.ensures.value at c.in-Ok.ensures.bound) (rw c.deref.ensures.value at c.in-Ok.ensures.position) in
    rw (← c.self.view_is) (sym found.0)

pub returns-in-Ok-clause-added : goal.returns-in-Ok-clause-added
returns-in-Ok-clause-added c =
    let found = is_found c.self.inside.items.items c.args.item c.in-Ok.field-0 c.self.invariant (rw c.deref.ensures.value at c.in-Ok.ensures.bound) (rw c.deref.ensures.value at c.in-Ok.ensures.position) in
    rw (← c.self.view_is) (sym (ap not found.1))

pub returns-in_ok-insert-in-Err-clause-ok : goal.returns-in_ok-insert-in-Err-clause-ok
returns-in_ok-insert-in-Err-clause-ok c =
    let missing = is_missing c.self.inside.items.items c.args.item c.in-Err.at c.self.invariant (rw c.deref.ensures.value at c.in-Err.ensures.bound) (rw c.deref.ensures.value at c.in-Err.ensures.position) in
    rw (c.in_ok-insert-in-Err.ensures.items, ← c.self.view_is) (sym missing.0)

pub returns-in_ok-insert-in-Err-clause-added : goal.returns-in_ok-insert-in-Err-clause-added
returns-in_ok-insert-in-Err-clause-added c =
    let missing = is_missing c.self.inside.items.items c.args.item c.in-Err.at c.self.invariant (rw c.deref.ensures.value at c.in-Err.ensures.bound) (rw c.deref.ensures.value at c.in-Err.ensures.position) in
    rw (← c.self.view_is) (sym (ap not missing.1))
