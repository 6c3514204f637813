-- A message of the grammar may be heard.
use Rattle.paxos_forms.specs.Messages.{IsMessage, IsWire}
use Rattle.paxos_forms.specs.declared.message.Message.{Message}
use Rattle.paxos_forms.specs.declared.message.Wire.{Wire}
use Rattle.paxos_forms.specs.declared.message.Wire.TheVariants as wire
use Rattle.node_rules.specs.declared.event.PaxosEvent.TheVariants.{Heard}
use Rattle.paxos_node.specs.Events.{IsInRange, MayHappen}

wire_in_range : (x : Wire) → IsWire x → IsInRange x
wire_in_range (wire.Prepare b s) h = tt
wire_in_range (wire.Promise b s xs) h = tt
wire_in_range (wire.Accept b t v) h = tt
wire_in_range (wire.Accepted b t) h = h.1.1
wire_in_range (wire.Learn t v) h = h.0.1
wire_in_range (wire.Offer v) h = tt
wire_in_range (wire.Welcome x) h = (h.slot_below, h.place_below)
wire_in_range (wire.Ask a) h = tt
wire_in_range (wire.Give g) h = tt
wire_in_range (wire.Alive n) h = tt
wire_in_range wire.Gone h = tt

pub message_may_happen : (m : Message) → IsMessage m → MayHappen (Heard m)
message_may_happen m h = wire_in_range m.wire h.wire
