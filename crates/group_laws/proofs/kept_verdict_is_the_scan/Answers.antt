use Rattle.group_laws.proofs.KeptIsScan as KeptIsScan
use Rattle.group_laws.proofs.kept_verdict_is_the_scan.Goals as goal

pub returns : goal.returns
returns c = KeptIsScan.kept_is_scan
