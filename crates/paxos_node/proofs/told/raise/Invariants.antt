-- Those so far are raised.
use Rattle.std.proofs.Common.{◌≡◌, ◌++◌, drop, take}
use Rattle.std.specs.Prelude.{map}
use Rattle.node_rules.specs.Learning.{tells}
use Rattle.paxos_node.specs.Told.{told_of}
use Rattle.paxos_node.proofs.told.raise.Given as goal

abbrev pub invariant-loop-at : goal.invariant-loop-at
invariant-loop-at l = map told_of l.told.items ≡ tells (take l.at (map told_of l.initial.told.items)) l.inc l.slot ++ drop l.at (map told_of l.initial.told.items)
