-- From the values of every run.
use Rattle.order_laws.proofs.Made.{made_before}
use Rattle.order_laws.proofs.no_value_invented.Goals as goal

pub returns : goal.returns
returns c = made_before
