-- The errors of a body's codec, and the byte for the kind of a body.
use Rattle.std.specs.Prelude.{ℕ}
use Rattle.byte_forms.specs.declared.unread.Unread.{Unread}
use Rattle.byte_forms.specs.declared.unread.Unread.TheVariants as unread
use Rattle.txn_forms.specs.declared.fault.BodyFault.{BodyFault}
use Rattle.txn_forms.specs.declared.fault.BodyFault.TheVariants as fault

abbrev pub fault_of : Unread → BodyFault
fault_of unread.Memory = fault.Memory
fault_of (unread.Misfit at) = fault.BadBody at
