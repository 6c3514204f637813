-- Messages that come.
use Rattle.std.specs.Prelude.{Bool, true, false}
use Rattle.gr_ids.specs.declared.names.Inc.{Inc}
use Rattle.paxos_forms.specs.declared.message.Message.{Message}
use Rattle.paxos_forms.specs.declared.message.Wire.{Wire}
use Rattle.paxos_forms.specs.declared.message.Wire.TheVariants.{Accept, Prepare}
use Rattle.node_rules.specs.declared.event.PaxosEvent.TheVariants.{Heard}
use Rattle.group_rules.specs.Member.{Member, at_node}
use Rattle.group_rules.specs.Recovery.{check_ask}
use Rattle.group_rules.specs.Steps.{hear_in_error, hear_wire}

abbrev pub message_of : Inc → Inc → Wire → Message
message_of from to w = record { from = from; to = to; wire = w }

abbrev pub hear : Message → Member → Member
hear m a = hear_wire m m.wire a

-- it asks for a promise or a vote
abbrev pub asks_a_vote : Wire → Bool
asks_a_vote (Prepare b s) = true
asks_a_vote (Accept b t v) = true
asks_a_vote w = false

-- in ERROR
abbrev pub hear_fallen : Message → Member → Member
hear_fallen m a = hear_in_error m m.wire a

-- its node hears it, and then a pending ask may fail
abbrev pub hear_checked : Message → Member → Member
hear_checked m a = check_ask (at_node (Heard m) a)
