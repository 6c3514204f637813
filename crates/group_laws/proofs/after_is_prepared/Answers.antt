use Rattle.group_laws.proofs.Acks as Acks
use Rattle.group_laws.proofs.after_is_prepared.Goals as goal

pub returns : goal.returns
returns c = λ r k w h. Acks.after_law r k w h
