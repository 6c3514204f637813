-- The first one of those behind the place.
use Rattle.std.proofs.Common.{◌≡◌, ◌≤◌, length, drop}
use Rattle.group_rules.specs.View.{elect}
use Rattle.primary_election.proofs.election.elect.Given as goal

abbrev pub invariant-loop-left : goal.invariant-loop-left
invariant-loop-left l = record { within : l.left ≤ length l.candidates; first : l.first ≡ elect (drop l.left l.candidates) }

abbrev pub decreases-loop-left : goal.decreases-loop-left
decreases-loop-left l = l.left
