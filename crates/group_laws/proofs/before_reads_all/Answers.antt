use Rattle.group_laws.proofs.Begins as Begins
use Rattle.group_laws.proofs.before_reads_all.Goals as goal

pub returns : goal.returns
returns c = λ r k w h. Begins.before_law r k w h
