-- Those so far, with what is left.
use Rattle.std.proofs.Common.{◌≡◌, ◌++◌, drop, not}
use Rattle.std.specs.Prelude.{filter}
use Rattle.gr_ids.specs.Names.{has_inc}
use Rattle.paxos_leader.proofs.missing.without.Given as goal

abbrev pub invariant-loop-inc : goal.invariant-loop-inc
invariant-loop-inc l = l.incs.items ++ filter (λ i. not (has_inc l.accepted i)) (drop l.inc-index l.config) ≡ filter (λ i. not (has_inc l.accepted i)) l.config
