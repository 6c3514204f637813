use Rattle.wire_hub.proofs.Keeps.{begins}
use Rattle.wire_hub.proofs.passes.Mailbox.open.Goals as goal

pub with_rule-requires : goal.with_rule-requires
with_rule-requires c = begins
