-- Both kinds are sent.
use Rattle.std.proofs.Common.{◌≡◌, Some, ap, sym, ◌∙◌}
use Rattle.node_rules.specs.Node.{Node}
use Rattle.paxos_node.proofs.Again.{both_sent}
use Rattle.paxos_node.proofs.Results.{on_ok}
use Rattle.paxos_node.proofs.node.Node.send_again.Goals as goal

pub returns : goal.returns
returns c =
    let leads : c.args.self.now.leader ≡ Some c.in-Some.leader = ap (λ (n : Node). n.leader) (sym c.self.view_is) ∙ c.in-Some.is in
    on_ok c.accept_again.result (λ e. e ∙ both_sent c.args.self.now c.in-Some.leader c.args.sent.now.items c.prepare_again.new.sent.items leads c.in_ok-prepare_again.ensures) c.accept_again.ensures
