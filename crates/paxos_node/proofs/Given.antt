-- A message that its form spells may be heard.
use Rattle.paxos_forms.specs.Messages.{IsMessage, IsWire}
use Rattle.paxos_forms.specs.declared.message.Message.{Message}
use Rattle.paxos_forms.specs.declared.message.Wire.{Wire}
use Rattle.paxos_forms.specs.declared.message.Wire.TheVariants as wire
use Rattle.node_rules.specs.declared.event.PaxosEvent.TheVariants.{Heard}
use Rattle.paxos_node.specs.Events.{IsInRange, MayHappen}

in_range : (x : Wire) → IsWire x → IsInRange x
in_range (wire.Prepare b s) h = tt
in_range (wire.Promise b s xs) h = tt
in_range (wire.Accept b t v) h = tt
in_range (wire.Accepted b t) h = h.1.1
in_range (wire.Learn t v) h = h.0.1
in_range (wire.Offer v) h = tt
in_range (wire.Welcome x) h = (h.slot_below, h.place_below)
in_range (wire.Ask x) h = tt
in_range (wire.Give x) h = tt
in_range (wire.Alive k) h = tt
in_range wire.Gone h = tt

pub may_happen : (m : Message) → IsMessage m → MayHappen (Heard m)
may_happen m h = in_range m.wire h.wire
