-- Those so far, with what is left.
use Rattle.std.proofs.Common.{◌≡◌, ◌++◌, drop}
use Rattle.std.specs.Prelude.{map}
use Rattle.node_rules.specs.Lists.{others}
use Rattle.node_rules.specs.Node.{told_from}
use Rattle.paxos_node.specs.Told.{told_of}
use Rattle.paxos_node.proofs.told.told_by_others.Given as goal

abbrev pub invariant-loop-inc : goal.invariant-loop-inc
invariant-loop-inc l = map told_of l.told.items ++ told_from l.slot (others l.me (drop l.inc-index l.incs)) ≡ told_from l.slot (others l.me l.incs)
