-- Those so far, with what is left.
use Rattle.std.proofs.Common.{◌≡◌, ◌++◌, drop, not}
use Rattle.std.specs.Prelude.{map, filter}
use Rattle.node_rules.specs.Leader.{has_promise}
use Rattle.paxos_leader.specs.Parts.{promised_of}
use Rattle.paxos_leader.proofs.missing.without_promise.Given as goal

abbrev pub invariant-loop-inc : goal.invariant-loop-inc
invariant-loop-inc l = l.incs.items ++ filter (λ i. not (has_promise (map promised_of l.promises) i)) (drop l.inc-index l.config) ≡ filter (λ i. not (has_promise (map promised_of l.promises) i)) l.config
