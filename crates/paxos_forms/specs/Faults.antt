-- Why bytes aren't read as a message.
use Rattle.std.specs.Prelude.{◌≡◌, ℕ, ◌-◌, ◌≤◌, List, length}
use Rattle.byte_forms.specs.Reads.{Fault, whole}
use Rattle.paxos_forms.specs.Messages.{next_message}
use Rattle.paxos_forms.specs.declared.fault.MessageFault.{MessageFault}
use Rattle.paxos_forms.specs.declared.fault.MessageFault.TheVariants.{Memory, BadMessage}

-- no spelling of a message goes on at this byte
abbrev pub IsFault : List ℕ → MessageFault → Type 0
IsFault bytes Memory = Unit {0}
IsFault bytes (BadMessage at) = (at ≤ length bytes) × (whole next_message bytes ≡ Fault (length bytes - at))
