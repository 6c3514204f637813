-- Each one so far is before the place.
use Rattle.std.proofs.Common.{◌≡◌, ◌+◌, not, drop}
use Rattle.std.specs.List.{prefix_len}
use Rattle.gr_ids.specs.Names.{inc_lt}
use Rattle.slot_values.proofs.reading.member_place.Given as goal

abbrev pub invariant-loop-k : goal.invariant-loop-k
invariant-loop-k l = prefix_len (λ m. not (inc_lt l.inc m.inc)) l.members ≡ l.k + prefix_len (λ m. not (inc_lt l.inc m.inc)) (drop l.k l.members)
