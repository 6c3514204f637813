-- The least so far, with what is left.
use Rattle.std.proofs.Common.{◌≡◌, ◌≤◌, drop}
use Rattle.std.specs.Prelude.{fold, map, min}
use Rattle.paxos_node.specs.Told.{told_of}
use Rattle.paxos_node.proofs.told.least_of.Given as goal

abbrev pub invariant-loop-one : goal.invariant-loop-one
invariant-loop-one l = record {
  rest : fold (λ k x. min k x.slot) l.least (map told_of (drop l.one-index l.told)) ≡ fold (λ k x. min k x.slot) l.own (map told_of l.told);
  most : l.least ≤ l.own;
}
