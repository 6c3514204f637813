-- None so far is next.
use Rattle.std.proofs.Common.{◌≡◌, drop}
use Rattle.std.specs.List.{find}
use Rattle.world_wire.specs.Nexts.{is_next_at}
use Rattle.world_wire.proofs.lane.Lane.first_next.Given as goal

abbrev pub invariant-loop-at : goal.invariant-loop-at
invariant-loop-at l = find (is_next_at l.among l.running l.letters) (drop l.at l.self.indexes) ≡ find (is_next_at l.among l.running l.letters) l.self.indexes
