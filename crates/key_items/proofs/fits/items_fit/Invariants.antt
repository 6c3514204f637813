use Rattle.std.proofs.Common.{length}
use Rattle.std.specs.List.{AllByRecursion}
use Rattle.key_items.specs.Spelling.{AreBytes}
use Rattle.key_items.proofs.fits.items_fit.Given as goal

-- where those that are left are bytes, all are
abbrev pub invariant-loop-item : goal.invariant-loop-item
invariant-loop-item l = AllByRecursion AreBytes l.left → AllByRecursion AreBytes l.items

abbrev pub decreases-loop-item : goal.decreases-loop-item
decreases-loop-item l = length l.left
