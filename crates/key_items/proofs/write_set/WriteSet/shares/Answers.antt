use Rattle.std.proofs.Common.{◌≡◌, ◌∙◌, List, length, ap, sym, refl, false}
use Rattle.key_items.specs.Items.{Item, share}
use Rattle.key_items.proofs.Sets.{first_below, first_above, first_same, share_nothing}
use Rattle.key_items.proofs.write_set.WriteSet.shares.Goals as goal

pub loop-x-preserved-in-Less : goal.loop-x-preserved-in-Less
loop-x-preserved-in-Less c =
    let next = first_below _ _ _ _ _ _ c.in-Some.ensures.cases.0 c.in-Some-split_first.ensures.cases.0 (sym c.cmp.ensures ∙ c.in-Less.is) c.loop-x.invariant.left c.loop-x.invariant.right in
    record { left = next.0; right = c.loop-x.invariant.right; same = next.1 ∙ c.loop-x.invariant.same }

pub loop-x-preserved : goal.loop-x-preserved
loop-x-preserved c =
    let next = first_above _ _ _ _ _ _ c.in-Some.ensures.cases.0 c.in-Some-split_first.ensures.cases.0 (sym c.cmp.ensures ∙ c.in-Greater.is) c.loop-x.invariant.left c.loop-x.invariant.right in
    record { left = c.loop-x.invariant.left; right = next.0; same = next.1 ∙ c.loop-x.invariant.same }

pub returns-in-Equal : goal.returns-in-Equal
returns-in-Equal c =
    let same = first_same _ _ _ _ _ _ c.in-Some.ensures.cases.0 c.in-Some-split_first.ensures.cases.0 (sym c.cmp.ensures ∙ c.in-Equal.is) in
    rw (← c.self.view_is, ← c.other.view_is, ← c.as_slice-left.ensures.value, ← c.as_slice-right.ensures.value) (sym same ∙ c.loop-x.invariant.same)

pub returns-in_default-split_first : goal.returns-in_default-split_first
returns-in_default-split_first c =
    let none : share c.loop-x.left.now c.loop-x.right.now ≡ false = share_nothing c.loop-x.left.now c.loop-x.right.now c.in_default-split_first.ensures.cases in
    rw (← c.self.view_is, ← c.other.view_is, ← c.as_slice-left.ensures.value, ← c.as_slice-right.ensures.value) (sym none ∙ c.loop-x.invariant.same)
