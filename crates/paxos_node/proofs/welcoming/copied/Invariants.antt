-- Those so far, with what is left.
use Rattle.std.proofs.Common.{◌≡◌, ◌++◌, drop}
use Rattle.paxos_node.proofs.welcoming.copied.Given as goal

abbrev pub invariant-loop-config : goal.invariant-loop-config
invariant-loop-config l = l.copies.items ++ drop l.config-index l.configs ≡ l.configs
