use Rattle.std.proofs.Common.{length}
use Rattle.std.specs.List.{AllByRecursion}
use Rattle.member_moment.specs.Founding.{IsKeepable}
use Rattle.member_moment.proofs.keepable.are_keepable.Given as goal

-- all can be given where those left can
abbrev pub invariant-loop-first : goal.invariant-loop-first
invariant-loop-first l = AllByRecursion IsKeepable l.left → AllByRecursion IsKeepable l.committed

abbrev pub decreases-loop-first : goal.decreases-loop-first
decreases-loop-first l = length l.left
