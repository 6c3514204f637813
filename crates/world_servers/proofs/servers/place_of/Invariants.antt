-- Each one so far isn't above the number.
use Rattle.std.proofs.Common.{◌≡◌, ◌+◌, not, drop}
use Rattle.std.specs.Prelude.{nat_lt}
use Rattle.std.specs.List.{prefix_len}
use Rattle.world_servers.proofs.servers.place_of.Given as goal

abbrev pub invariant-loop-k : goal.invariant-loop-k
invariant-loop-k l = prefix_len (λ x. not (nat_lt l.number x.number)) l.list ≡ l.k + prefix_len (λ x. not (nat_lt l.number x.number)) (drop l.k l.list)
