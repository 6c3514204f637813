use Rattle.std.proofs.Common.{◌≡◌, [], length}
use Rattle.key_items.specs.Floors.{passes}
use Rattle.key_items.proofs.floors.can_pass.Given as goal

abbrev pub invariant-loop-least : goal.invariant-loop-least
invariant-loop-least l = passes l.under l.itself l.more [] ≡ passes l.fn.floor l.itself l.fn.n []

abbrev pub decreases-loop-least : goal.decreases-loop-least
decreases-loop-least l = length l.under
