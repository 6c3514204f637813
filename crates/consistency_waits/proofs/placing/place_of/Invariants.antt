-- Each one so far isn't behind the place.
use Rattle.std.proofs.Common.{◌≡◌, ◌+◌, not, drop}
use Rattle.std.specs.Prelude.{nat_lt}
use Rattle.std.specs.List.{prefix_len}
use Rattle.consistency_waits.proofs.placing.place_of.Given as goal

abbrev pub invariant-loop-k : goal.invariant-loop-k
invariant-loop-k l = prefix_len (λ h. not (nat_lt l.session h.session)) l.holds ≡ l.k + prefix_len (λ h. not (nat_lt l.session h.session)) (drop l.k l.holds)
