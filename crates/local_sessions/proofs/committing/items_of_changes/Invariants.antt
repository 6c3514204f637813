-- The items of those behind are in.
use Rattle.std.proofs.Common.{◌≡◌, length}
use Rattle.group_rules.specs.Calls.{items_of}
use Rattle.local_sessions.proofs.Rows.{items_onto}
use Rattle.local_sessions.proofs.committing.items_of_changes.Given as goal

abbrev pub invariant-loop-change : goal.invariant-loop-change
invariant-loop-change l = items_onto l.rest l.items ≡ items_of l.changes

abbrev pub decreases-loop-change : goal.decreases-loop-change
decreases-loop-change l = length l.rest
