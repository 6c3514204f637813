use Rattle.wire_hub.proofs.Keeps.{names}
use Rattle.wire_hub.proofs.mailbox.name_owner.Goals as goal

pub another-requires-clause-rule : goal.another-requires-clause-rule
another-requires-clause-rule g c = names _ _ _ c.requires.new.1 c.requires.new.2
