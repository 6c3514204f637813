-- Events of a node.
use Rattle.std.specs.Prelude.{Bool, true, false}
use Rattle.paxos_forms.specs.declared.message.Wire.{Wire}
use Rattle.paxos_forms.specs.declared.message.Wire.TheVariants.{Welcome as Greet}
use Rattle.node_rules.specs.declared.event.PaxosEvent.{PaxosEvent}
use Rattle.node_rules.specs.declared.event.PaxosEvent.TheVariants.{Heard}

abbrev pub greets : Wire → Bool
greets (Greet w) = true
greets x = false

-- a Welcome comes
abbrev pub is_welcome : PaxosEvent → Bool
is_welcome (Heard m) = greets m.wire
is_welcome e = false
