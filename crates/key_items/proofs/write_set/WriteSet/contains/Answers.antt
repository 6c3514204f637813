use Rattle.std.proofs.Common.{ap, ◌∙◌}
use Rattle.key_items.specs.Items.{has_item}
use Rattle.key_items.proofs.Sets.{searched}
use Rattle.key_items.proofs.write_set.WriteSet.contains.Goals as goal

pub returns : goal.returns
returns c =
    let bound = rw c.deref.ensures.value at c.binary_search.ensures.bound in
    let position = rw c.deref.ensures.value at c.binary_search.ensures.position in
    c.is_ok.ensures.value ∙ searched c.self.inside.items.items c.args.item.now c.binary_search.result c.self.invariant bound position ∙ ap (λ xs. has_item xs c.args.item.now) c.self.view_is
