-- Those behind are kept.
use Rattle.std.proofs.Common.{◌≡◌, ◌≤◌, drop, length}
use Rattle.member_parts.specs.Entering.{all_back}
use Rattle.member_parts.proofs.joining.keep_back.Given as goal

abbrev pub invariant-loop-at : goal.invariant-loop-at
invariant-loop-at l = (l.donor ≡ record l.initial.donor { certified = all_back l.initial.donor.certified (drop l.at l.txns) }) × (l.at ≤ length l.txns)

abbrev pub decreases-loop-at : goal.decreases-loop-at
decreases-loop-at l = l.at
