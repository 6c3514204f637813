-- What a node may be given. A message names slots up to the last one, and a Welcome no more places than slots.
use Rattle.std.specs.Prelude.{◌≤◌, ⊤}
use Rattle.slot_values.specs.Slots.{last_slot}
use Rattle.paxos_forms.specs.declared.message.Wire.{Wire}
use Rattle.paxos_forms.specs.declared.message.Wire.TheVariants as wire
use Rattle.node_rules.specs.declared.event.PaxosEvent.{PaxosEvent}
use Rattle.node_rules.specs.declared.event.PaxosEvent.TheVariants.{Heard}

abbrev pub IsInRange : Wire → Type 0
IsInRange (wire.Accepted b t) = t ≤ last_slot
IsInRange (wire.Learn t v) = t ≤ last_slot
IsInRange (wire.Welcome x) = (x.slot ≤ last_slot) × (x.place ≤ x.slot)
IsInRange _ = ⊤

abbrev pub MayHappen : PaxosEvent → Type 0
MayHappen (Heard m) = IsInRange m.wire
MayHappen _ = ⊤
