-- No proposal so far is one.
use Rattle.std.proofs.Common.{◌≡◌}
use Rattle.std.specs.Prelude.{map, not, ◌&&◌}
use Rattle.std.specs.List.{list_any}
use Rattle.gr_ids.specs.Names.{id_eq}
use Rattle.node_rules.specs.Learner.{is_decided}
use Rattle.paxos_leader.specs.Parts.{proposal_of}
use Rattle.paxos_leader.proofs.counting.is_proposed.Given as goal

abbrev pub invariant-loop-slot : goal.invariant-loop-slot
invariant-loop-slot l = list_any (λ p. id_eq p.value.id l.id && not (is_decided l.learner p.slot)) (map proposal_of l.slot-iterator) ≡ list_any (λ p. id_eq p.value.id l.id && not (is_decided l.learner p.slot)) (map proposal_of l.proposals.entries)
