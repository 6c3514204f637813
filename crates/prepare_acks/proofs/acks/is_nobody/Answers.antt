-- A list is empty where its length is 0.
use Rattle.std.proofs.Common.{◌∙◌}
use Rattle.prepare_acks.proofs.MapReads.{empty_is_none}
use Rattle.prepare_acks.proofs.acks.is_nobody.Goals as goal

pub returns : goal.returns
returns c = c.is_empty.ensures ∙ empty_is_none c.args.members.now
