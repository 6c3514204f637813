-- One of the required members after another.
use Rattle.prepare_acks.proofs.Awaiting.{nobody_left}
use Rattle.prepare_acks.proofs.laws.complete_where_nobody_is_awaited.Goals as goal

pub returns : goal.returns
returns c origin prepared is_member required = nobody_left origin prepared is_member required
