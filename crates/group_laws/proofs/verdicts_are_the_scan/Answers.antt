use Rattle.group_laws.proofs.Begins as Begins
use Rattle.group_laws.proofs.verdicts_are_the_scan.Goals as goal

pub returns : goal.returns
returns c = λ r k w h. Begins.same_verdicts r k w h
