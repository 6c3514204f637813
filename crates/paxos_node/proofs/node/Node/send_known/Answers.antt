-- What is known is told.
use Rattle.paxos_node.proofs.Sends.{known_sent}
use Rattle.paxos_node.proofs.node.Node.send_known.Goals as goal

pub returns : goal.returns
returns c =
    let sent = rw (known_sent c.self.inside.me c.args.to c.in_ok-known.known.items, c.in_ok-known.ensures) at c.send_learns.ensures in
    rw (← c.self.view_is) sent
