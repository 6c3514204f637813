use Rattle.wire_hub.proofs.Keeps.{tells_own, hears_more}
use Rattle.wire_hub.proofs.passes.Mailbox.tell.Goals as goal

pub another-note-requires-clause-rule : goal.another-note-requires-clause-rule
another-note-requires-clause-rule c = tells_own _ _ c.args.port.now.sends.0

pub absorb-requires-clause-rule : goal.absorb-requires-clause-rule
absorb-requires-clause-rule c = hears_more _ _ _ _
