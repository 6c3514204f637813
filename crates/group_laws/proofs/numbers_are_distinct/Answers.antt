use Rattle.group_laws.proofs.Scans as Scans
use Rattle.group_laws.proofs.numbers_are_distinct.Goals as goal

pub returns : goal.returns
returns c = λ r h k c d i j e. Scans.gtids_distinct r h k c d i j e
