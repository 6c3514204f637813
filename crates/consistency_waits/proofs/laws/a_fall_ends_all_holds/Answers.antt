-- Each session's hold ends.
use Rattle.consistency_waits.proofs.Falls.{falls}
use Rattle.consistency_waits.proofs.laws.a_fall_ends_all_holds.Goals as goal

pub returns : goal.returns
returns c = falls
