-- Each one so far isn't above the session.
use Rattle.std.proofs.Common.{◌≡◌, ◌+◌, not, drop}
use Rattle.std.specs.Prelude.{nat_lt}
use Rattle.std.specs.List.{prefix_len}
use Rattle.local_sessions.proofs.listing.place_of.Given as goal

abbrev pub invariant-loop-k : goal.invariant-loop-k
invariant-loop-k l = prefix_len (λ x. not (nat_lt l.session x.session)) l.list ≡ l.k + prefix_len (λ x. not (nat_lt l.session x.session)) (drop l.k l.list)
