use Rattle.group_laws.proofs.Acks as Acks
use Rattle.group_laws.proofs.joiners_certify_alike.Goals as goal

pub returns : goal.returns
returns c = λ r k w h. Acks.join_law r k w h
