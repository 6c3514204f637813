use Rattle.group_laws.proofs.Begins as Begins
use Rattle.group_laws.proofs.every_run_is_fresh.Goals as goal

pub returns : goal.returns
returns c = λ r k w h. Begins.all_fresh r k w h
