-- The bytes that were read.
use Rattle.std.proofs.Common.{◌<◌, ℕ, get_or}
use Rattle.group_world.proofs.uuids.uuid_fits.Given as goal

abbrev pub invariant-bytes : goal.invariant-bytes
invariant-bytes l = (k : ℕ) → k < l.i → get_or l.id k 0 < 256
