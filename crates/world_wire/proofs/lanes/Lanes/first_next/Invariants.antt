-- The least of the lanes so far, and of the others, is that of all.
use Rattle.std.proofs.Common.{◌≡◌, None, drop}
use Rattle.world_wire.specs.Lanes.{next_in}
use Rattle.world_wire.proofs.lanes.Lanes.first_next.Given as goal

abbrev pub invariant-loop-lane : goal.invariant-loop-lane
invariant-loop-lane l = next_in l.among l.running l.letters l.least (drop l.lane-index l.self) ≡ next_in l.among l.running l.letters None l.self
