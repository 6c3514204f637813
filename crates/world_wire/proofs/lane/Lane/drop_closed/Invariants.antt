-- What is left to drop; the front goes.
use Rattle.std.proofs.Common.{◌≡◌, length}
use Rattle.world_wire.specs.Lanes.{dropped_in}
use Rattle.world_wire.proofs.lane.Lane.drop_closed.Given as goal

abbrev pub invariant-loop-index : goal.invariant-loop-index
invariant-loop-index l = dropped_in l.letters (record { to = l.self-inside.to; from = l.self-inside.from; indexes = l.self-inside.indexes.items }) ≡ dropped_in l.letters l.fn.self

abbrev pub decreases-loop-index : goal.decreases-loop-index
decreases-loop-index l = length l.self-inside.indexes.items
