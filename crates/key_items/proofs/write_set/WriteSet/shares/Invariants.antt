use Rattle.std.proofs.Common.{◌≡◌, ◌+◌, length}
use Rattle.key_items.specs.Items.{Ascend, share}
use Rattle.key_items.proofs.write_set.WriteSet.shares.Given as goal

abbrev pub invariant-loop-x : goal.invariant-loop-x
invariant-loop-x l = record {
  left : Ascend l.left;
  right : Ascend l.right;
  same : share l.left l.right ≡ share l.initial.left l.initial.right;
}

abbrev pub decreases-loop-x : goal.decreases-loop-x
decreases-loop-x l = length l.left + length l.right
