use Rattle.wire_hub.proofs.Keeps.{tells_of}
use Rattle.wire_hub.proofs.mailbox.name_told.Goals as goal

pub another-requires-clause-rule : goal.another-requires-clause-rule
another-requires-clause-rule g c = tells_of _ _ _ c.requires.taker.1
