-- Those that are left lead to the same.
use Rattle.std.proofs.Common.{length}
use Rattle.member_ranges.specs.Ranges.{setup_with}
use Rattle.group_world.proofs.Founded.{AreLeft}
use Rattle.group_world.proofs.stage.Stage.found_all.Given as goal

abbrev pub invariant-loop-founder : goal.invariant-loop-founder
invariant-loop-founder l = AreLeft (setup_with l.founding.limits l.founding.mode l.founding.founders.items) l.left l.fn.self l.self

abbrev pub decreases-loop-founder : goal.decreases-loop-founder
decreases-loop-founder l = length l.left
