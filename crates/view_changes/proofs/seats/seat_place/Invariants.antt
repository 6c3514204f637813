-- Each one so far is before the place.
use Rattle.std.proofs.Common.{◌≡◌, ◌+◌, not, drop}
use Rattle.std.specs.List.{prefix_len}
use Rattle.gr_ids.specs.Names.{inc_lt}
use Rattle.view_changes.proofs.seats.seat_place.Given as goal

abbrev pub invariant-loop-k : goal.invariant-loop-k
invariant-loop-k l = prefix_len (λ s. not (inc_lt l.inc s.joiner.inc)) l.seats ≡ l.k + prefix_len (λ s. not (inc_lt l.inc s.joiner.inc)) (drop l.k l.seats)
