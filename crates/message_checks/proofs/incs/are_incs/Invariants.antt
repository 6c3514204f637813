use Rattle.std.proofs.Common.{◌↔◌, length}
use Rattle.std.specs.List.{AllByRecursion}
use Rattle.name_forms.specs.Incs.{IsInc}
use Rattle.message_checks.proofs.incs.are_incs.Given as goal

-- all are in their ranges exactly where those left are
abbrev pub invariant-loop-first : goal.invariant-loop-first
invariant-loop-first l = AllByRecursion IsInc l.left ↔ AllByRecursion IsInc l.incs

abbrev pub decreases-loop-first : goal.decreases-loop-first
decreases-loop-first l = length l.left
