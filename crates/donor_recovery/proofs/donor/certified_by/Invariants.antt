-- The GTIDs of those behind.
use Rattle.std.proofs.Common.{◌≡◌, ◌≤◌, drop, length}
use Rattle.std.specs.Prelude.{filter}
use Rattle.donor_recovery.specs.Donating.{gtids_given, is_by}
use Rattle.donor_recovery.proofs.donor.certified_by.Given as goal

abbrev pub invariant-loop-at : goal.invariant-loop-at
invariant-loop-at l = (l.set ≡ gtids_given (filter (is_by l.place) (drop l.at l.certified))) × (l.at ≤ length l.certified)

abbrev pub decreases-loop-at : goal.decreases-loop-at
decreases-loop-at l = l.at
