use Rattle.std.proofs.Common.{◌≤◌, length}
use Rattle.std.specs.List.{AllByRecursion}
use Rattle.name_forms.specs.Ids.{last_u64}
use Rattle.message_checks.proofs.values.are_numbers.Given as goal

-- where those left are, all are
abbrev pub invariant-loop-first : goal.invariant-loop-first
invariant-loop-first l = AllByRecursion (λ n. n ≤ last_u64) l.left → AllByRecursion (λ n. n ≤ last_u64) l.numbers

abbrev pub decreases-loop-first : goal.decreases-loop-first
decreases-loop-first l = length l.left
