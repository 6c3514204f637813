use Rattle.wire_hub.proofs.Keeps.{sends}
use Rattle.wire_hub.proofs.passes.Mailbox.put.Goals as goal

pub push_as-requires-clause-rule : goal.push_as-requires-clause-rule
push_as-requires-clause-rule g c n = sends n _ _ _ c.args.port.now.sends.0 c.requires.names.0 c.requires.names.1 c.requires.index
