use Rattle.wire_hub.proofs.Keeps.{takes, empties}
use Rattle.wire_hub.proofs.passes.Mailbox.take.Goals as goal

pub pop_as-requires-clause-rule : goal.pop_as-requires-clause-rule
pop_as-requires-clause-rule g c = (takes _ _ c.args.take.now.takes.0, empties _ _ c.args.take.now.takes.0)
