-- Between whom the message goes that bytes spell (paxos_forms, Messages).
use Rattle.std.specs.Prelude.{ℕ, List, Option, Some, None}
use Rattle.gr_ids.specs.declared.names.Inc.{Inc}
use Rattle.paxos_forms.specs.declared.message.Message.{Message}
use Rattle.paxos_forms.specs.Messages.{read_message}

abbrev pub ends : Option Message → Option (Inc × Inc)
ends None = None
ends (Some m) = Some (m.from, m.to)

-- the sender and the addressee of the message that these bytes spell, if they spell one
abbrev pub ends_of : List ℕ → Option (Inc × Inc)
ends_of bytes = ends (read_message bytes)
