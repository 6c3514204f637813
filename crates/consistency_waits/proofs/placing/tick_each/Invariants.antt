-- Those so far are changed.
use Rattle.std.proofs.Common.{◌≡◌}
use Rattle.consistency_waits.specs.Holding.{ticked}
use Rattle.consistency_waits.proofs.EachOne.{changed_to}
use Rattle.consistency_waits.proofs.placing.tick_each.Given as goal

abbrev pub invariant-loop-held : goal.invariant-loop-held
invariant-loop-held l = l.holds ≡ changed_to ticked l.held-index l.initial.holds
