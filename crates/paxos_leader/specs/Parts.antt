-- How what a leader keeps is the leader of the definitions.
use Rattle.std.specs.Prelude.{ℕ}
use Rattle.gr_ids.specs.declared.names.ValueId.{ValueId}
use Rattle.slot_values.specs.declared.value.What.{What}
use Rattle.slot_values.specs.declared.value.Value.{Value}
use Rattle.slot_values.specs.Log.{Turns, forget_configs}
use Rattle.slot_values.specs.Turns.{Taken}
use Rattle.node_rules.specs.Leader.{Promised, Proposal}
use Rattle.paxos_leader.specs.declared.promise.Promise.{Promise}
use Rattle.paxos_leader.specs.declared.leader.Proposed.{Proposed}

abbrev pub promised_of : Promise → Promised
promised_of p = record { inc = p.inc; votes = p.votes }

abbrev pub proposal_of : ℕ × Proposed → Proposal
proposal_of e = record { slot = e.0; value = e.1.value; accepted = e.1.accepted.items }

abbrev pub offer_of : ValueId × What → Value
offer_of e = record { id = e.0; what = e.1 }

-- the log's state without the configurations that are forgotten
abbrev pub standing : Taken → Turns
standing w = forget_configs w.low w.turns
