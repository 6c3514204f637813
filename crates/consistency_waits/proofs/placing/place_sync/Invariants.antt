-- Those so far are changed.
use Rattle.std.proofs.Common.{◌≡◌}
use Rattle.consistency_waits.specs.Holding.{placed}
use Rattle.consistency_waits.proofs.EachOne.{changed_to}
use Rattle.consistency_waits.proofs.placing.place_sync.Given as goal

abbrev pub invariant-loop-held : goal.invariant-loop-held
invariant-loop-held l = l.holds ≡ changed_to (placed l.sync l.place) l.held-index l.initial.holds
