use Rattle.std.proofs.Common.{◌≡◌, ◌++◌, length, take, drop}
use Rattle.std.specs.List.{AllByRecursion, flat_map}
use Rattle.byte_forms.specs.Numbers.{number}
use Rattle.byte_forms.proofs.lists.put_elements.Given as goal

abbrev pub invariant-loop-x : goal.invariant-loop-x
invariant-loop-x g l = record {
  so_far : l.to ≡ l.fn.to ++ (number 4 (length l.xs) ++ flat_map (g.L.ListForm.spelling l.form) (take l.x-index l.xs));
  can : AllByRecursion (g.L.ListForm.CanPut l.form) (drop l.x-index l.xs);
}
