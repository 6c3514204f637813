-- The GTIDs, and the transactions that are lacking.
use Rattle.std.proofs.Common.{refl}
use Rattle.donor_recovery.proofs.Giving.{same_gtids, same_lacking}
use Rattle.donor_recovery.proofs.gives_are_those_of_the_rules.Goals as goal

pub returns : goal.returns
returns c s l cs v e = rw (same_gtids cs, same_lacking e cs) refl
