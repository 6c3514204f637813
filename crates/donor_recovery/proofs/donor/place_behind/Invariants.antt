-- Each one so far is at or before the place.
use Rattle.std.proofs.Common.{◌≡◌, ◌+◌, not, drop}
use Rattle.std.specs.Prelude.{nat_lt}
use Rattle.std.specs.List.{prefix_len}
use Rattle.donor_recovery.proofs.donor.place_behind.Given as goal

abbrev pub invariant-loop-k : goal.invariant-loop-k
invariant-loop-k l = prefix_len (λ g. not (nat_lt l.place g.place)) l.certified ≡ l.k + prefix_len (λ g. not (nat_lt l.place g.place)) (drop l.k l.certified)
