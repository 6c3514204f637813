-- Those so far, with those that are left.
use Rattle.std.proofs.Common.{◌≡◌, ◌++◌, map}
use Rattle.certifier.specs.Inside.{kept_in}
use Rattle.certifier.proofs.copying.copied_items.Given as goal

abbrev pub invariant-loop-item : goal.invariant-loop-item
invariant-loop-item l = l.kept.items ++ map kept_in l.item-iterator ≡ map kept_in l.items.entries
