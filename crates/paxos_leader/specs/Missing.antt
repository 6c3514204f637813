-- Who hasn't accepted the undecided proposals of a leader.
use Rattle.std.specs.Prelude.{Some, List, [], ◌∷◌, if◌then◌else◌}
use Rattle.slot_values.specs.Log.{Turns}
use Rattle.node_rules.specs.Learner.{Learner, is_decided}
use Rattle.node_rules.specs.Leader.{Proposal, unaccepted}
use Rattle.paxos_leader.specs.declared.missing.Unaccepted.{Unaccepted}

abbrev pub absent : Turns → Proposal → Unaccepted
absent w p = record { slot = p.slot; value = p.value; incs = unaccepted (Some w) p }

abbrev pub missing : Learner → Turns → List Proposal → List Unaccepted
missing d w [] = []
missing d w (p ∷ ps) = if is_decided d p.slot then missing d w ps else absent w p ∷ missing d w ps
