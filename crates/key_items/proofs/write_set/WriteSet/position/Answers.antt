use Rattle.std.proofs.Common.{◌≡◌, ◌<◌, List, false, length, Some, ap, subst, ◌∙◌, sym}
use Rattle.std.specs.List.{slice_get}
use Rattle.key_items.specs.Items.{Item, Ascend, has_item}
use Rattle.key_items.proofs.Sets.{found_at, is_missing}
use Rattle.key_items.proofs.write_set.WriteSet.position.Goals as goal

pub returns-in-Ok : goal.returns-in-Ok
returns-in-Ok c =
    let bound = rw c.deref.ensures.value at c.in-Ok.ensures.bound in
    let at = found_at c.self.inside.items.items c.args.item.now c.in-Ok.at bound (rw c.deref.ensures.value at c.in-Ok.ensures.position) in
    let P : List Item → Type 0 = λ xs. Ascend xs in
    let Q : List Item → Type 0 = λ xs. (c.in-Ok.at < length xs) × (slice_get xs c.in-Ok.at ≡ Some c.args.item.now) in
    record { at = subst Q c.self.view_is (bound, at); ascend = subst P c.self.view_is c.self.invariant }

pub returns-in-Err : goal.returns-in-Err
returns-in-Err c =
    let missing = is_missing c.self.inside.items.items c.args.item.now c.in-Err.field-0 c.self.invariant (rw c.deref.ensures.value at c.in-Err.ensures.bound) (rw c.deref.ensures.value at c.in-Err.ensures.position) in
    let P : List Item → Type 0 = λ xs. Ascend xs in
    record { at = ap (λ xs. has_item xs c.args.item.now) (sym c.self.view_is) ∙ missing.1; ascend = subst P c.self.view_is c.self.invariant }
