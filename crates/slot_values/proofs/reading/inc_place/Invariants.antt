-- Each one so far is before the place.
use Rattle.std.proofs.Common.{◌≡◌, ◌+◌, not, drop}
use Rattle.std.specs.List.{prefix_len}
use Rattle.gr_ids.specs.Names.{inc_lt}
use Rattle.slot_values.proofs.reading.inc_place.Given as goal

abbrev pub invariant-loop-k : goal.invariant-loop-k
invariant-loop-k l = prefix_len (λ i. not (inc_lt l.inc i)) l.incs ≡ l.k + prefix_len (λ i. not (inc_lt l.inc i)) (drop l.k l.incs)
