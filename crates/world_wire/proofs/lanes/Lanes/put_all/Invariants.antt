-- The letters so far are in.
use Rattle.std.proofs.Common.{◌≡◌, ◌++◌, List, length, take}
use Rattle.group_rules.specs.Script.{Letter}
use Rattle.world_wire.specs.Lanes.{IsIndex}
use Rattle.world_wire.proofs.lanes.Lanes.put_all.Given as goal

abbrev pub invariant-loop-at : goal.invariant-loop-at
invariant-loop-at l = (xs : List Letter) → length xs ≡ l.first → IsIndex l.fn.self xs → IsIndex l.self (xs ++ take l.at l.letters)
