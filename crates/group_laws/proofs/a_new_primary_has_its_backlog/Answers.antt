use Rattle.group_laws.proofs.Begins as Begins
use Rattle.group_laws.proofs.a_new_primary_has_its_backlog.Goals as goal

pub returns : goal.returns
returns c = λ r k w h. Begins.failover_law r k w h
