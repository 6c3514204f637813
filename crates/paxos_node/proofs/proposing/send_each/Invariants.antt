-- What is sent so far, with what is left.
use Rattle.std.proofs.Common.{◌≡◌, ◌++◌, drop}
use Rattle.std.specs.Prelude.{map}
use Rattle.node_rules.specs.Names.{Message, Offer}
use Rattle.paxos_node.proofs.proposing.send_each.Given as goal

abbrev pub invariant-loop-value : goal.invariant-loop-value
invariant-loop-value l = l.sent.items ++ map {B = Message} (λ v. record { from = l.me; to = l.to; wire = Offer v }) (drop l.value-index l.values) ≡ l.initial.sent.items ++ map {B = Message} (λ v. record { from = l.me; to = l.to; wire = Offer v }) l.values
