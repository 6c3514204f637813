-- The elements so far.
use Rattle.std.proofs.Common.{◌≡◌, length, take}
use Rattle.std.specs.List.{flat_map}
use Rattle.message_sizes.proofs.sums.elements_size.Given as goal

abbrev pub invariant-loop-x : goal.invariant-loop-x
invariant-loop-x g l = l.total ≡ length (flat_map (g.F.SizedForm.spelling l.form) (take l.x-index l.xs))
