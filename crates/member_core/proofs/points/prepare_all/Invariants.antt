-- Those that are left.
use Rattle.std.proofs.Common.{drop}
use Rattle.group_rules.specs.Points.{prepare_one}
use Rattle.member_core.proofs.Pointing.{AreDone}
use Rattle.member_core.proofs.points.prepare_all.Given as goal

abbrev pub invariant-loop-one : goal.invariant-loop-one
invariant-loop-one l = AreDone prepare_one (drop l.one-index l.one-items) l.fn.moment l.moment
