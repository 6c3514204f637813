-- Why bytes aren't read as a body.
use Rattle.std.specs.Prelude.{◌≡◌, ℕ, ◌-◌, ◌≤◌, List, length}
use Rattle.byte_forms.specs.Reads.{Fault, whole}
use Rattle.txn_forms.specs.Bodies.{next_body}
use Rattle.txn_forms.specs.declared.fault.BodyFault.{BodyFault}
use Rattle.txn_forms.specs.declared.fault.BodyFault.TheVariants.{Memory, BadBody}

-- no spelling of a body goes on at this byte
abbrev pub IsFault : List ℕ → BodyFault → Type 0
IsFault bytes Memory = Unit {0}
IsFault bytes (BadBody at) = (at ≤ length bytes) × (whole next_body bytes ≡ Fault (length bytes - at))
