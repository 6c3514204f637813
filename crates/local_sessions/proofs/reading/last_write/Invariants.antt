-- None of those behind is of the item.
use Rattle.std.proofs.Common.{◌≡◌, ℕ, Option, List, length}
use Rattle.group_rules.specs.Rows.{changed_row}
use Rattle.local_sessions.proofs.reading.last_write.Given as goal

abbrev pub invariant-loop-change : goal.invariant-loop-change
invariant-loop-change l = (r : Option (List ℕ)) → changed_row l.item r l.rest ≡ changed_row l.item r l.initial.rest

abbrev pub decreases-loop-change : goal.decreases-loop-change
decreases-loop-change l = length l.rest
