-- Where those left are in order behind the one before them, all are.
use Rattle.std.proofs.Common.{None, length, option_copied}
use Rattle.byte_forms.specs.Lists.{IsChain}
use Rattle.member_ranges.specs.Ranges.{IsFounderAfter}
use Rattle.group_world.proofs.founding.are_founders.Given as goal

abbrev pub invariant-loop-first : goal.invariant-loop-first
invariant-loop-first l = IsChain IsFounderAfter (option_copied l.before) l.left → IsChain IsFounderAfter None l.founders

abbrev pub decreases-loop-first : goal.decreases-loop-first
decreases-loop-first l = length l.left
