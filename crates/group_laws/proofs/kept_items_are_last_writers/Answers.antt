use Rattle.group_laws.proofs.KeptIsScan as KeptIsScan
use Rattle.group_laws.proofs.kept_items_are_last_writers.Goals as goal

pub returns : goal.returns
returns c = KeptIsScan.kept_items
