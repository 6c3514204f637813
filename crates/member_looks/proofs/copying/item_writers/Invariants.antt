-- Those so far.
use Rattle.std.proofs.Common.{◌≡◌, map}
use Rattle.member_looks.specs.Listing.{item_writer}
use Rattle.member_looks.proofs.copying.item_writers.Given as goal

abbrev pub invariant-loop-kept : goal.invariant-loop-kept
invariant-loop-kept l = l.writers.items ≡ map item_writer l.yielded
