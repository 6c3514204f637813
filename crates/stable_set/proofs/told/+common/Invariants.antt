-- The members that are left.
use Rattle.std.proofs.Common.{length}
use Rattle.stable_set.proofs.told.+common.Given as goal

abbrev pub decreases-common : goal.decreases-common
decreases-common l = length l.online.now
