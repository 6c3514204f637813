-- A told slot, as the definitions have it.
use Rattle.node_rules.specs.Node.{Told}
use Rattle.paxos_node.specs.declared.told.ToldSlot.{ToldSlot}

abbrev pub told_of : ToldSlot → Told
told_of x = record { inc = x.inc; slot = x.slot }
