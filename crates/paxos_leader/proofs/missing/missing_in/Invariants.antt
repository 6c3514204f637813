-- Those so far, with what is left.
use Rattle.std.proofs.Common.{◌≡◌, ◌++◌}
use Rattle.std.specs.Prelude.{map}
use Rattle.paxos_leader.specs.Missing.{missing}
use Rattle.paxos_leader.specs.Parts.{proposal_of, standing}
use Rattle.paxos_leader.proofs.missing.missing_in.Given as goal

abbrev pub invariant-loop-slot : goal.invariant-loop-slot
invariant-loop-slot l = l.found.items ++ missing l.learner (standing l.turns) (map proposal_of l.slot-iterator) ≡ missing l.learner (standing l.turns) (map proposal_of l.proposals.entries)
