use Rattle.std.proofs.Common.{◌≤◌, ◌-◌, length}
use Rattle.txn_forms.specs.PartPlaces.{parts_before}
use Rattle.txn_forms.proofs.places.parts_before.Given as goal

abbrev pub invariant-loop-low : goal.invariant-loop-low
invariant-loop-low l = record {
  low : l.low ≤ parts_before l.parts l.fn.origin;
  high : parts_before l.parts l.fn.origin ≤ l.high;
  within : l.high ≤ length l.parts;
}

abbrev pub decreases-loop-low : goal.decreases-loop-low
decreases-loop-low l = l.high - l.low
