-- What is kept, and what is left of the log, lead to the end.
use Rattle.group_rules.specs.Events.{Stored}
use Rattle.kept_server.specs.Keeping.{KeptFor}
use Rattle.kept_server.specs.Redoing.{LeadTo}
use Rattle.kept_server.proofs.kept.KeptServer.redo.Given as goal

abbrev pub invariant-loop-one : goal.invariant-loop-one
invariant-loop-one l = (y z : Stored) → KeptFor y l.fn.self → LeadTo y l.fn.log.items z → (w : Stored) × KeptFor w l.kept × LeadTo w l.one-iterator.rest.items z
