-- None of those behind is in the set.
use Rattle.std.proofs.Common.{◌≡◌, length}
use Rattle.row_store.specs.Chains.{seen_in}
use Rattle.row_store.proofs.version.newest_in.Given as goal

abbrev pub invariant-loop-newest : goal.invariant-loop-newest
invariant-loop-newest l = seen_in l.view l.rest ≡ seen_in l.view l.initial.rest

abbrev pub decreases-loop-newest : goal.decreases-loop-newest
decreases-loop-newest l = length l.rest
