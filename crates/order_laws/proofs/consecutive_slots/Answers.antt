-- From the slots taken in every run.
use Rattle.order_laws.proofs.Taken.{consecutive}
use Rattle.order_laws.proofs.consecutive_slots.Goals as goal

pub returns : goal.returns
returns c = consecutive
