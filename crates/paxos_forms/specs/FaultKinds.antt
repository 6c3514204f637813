-- The errors of the codec of messages.
use Rattle.byte_forms.specs.declared.unread.Unread.{Unread}
use Rattle.byte_forms.specs.declared.unread.Unread.TheVariants as unread
use Rattle.paxos_forms.specs.declared.fault.MessageFault.{MessageFault}
use Rattle.paxos_forms.specs.declared.fault.MessageFault.TheVariants as fault

abbrev pub fault_of : Unread → MessageFault
fault_of unread.Memory = fault.Memory
fault_of (unread.Misfit at) = fault.BadMessage at
