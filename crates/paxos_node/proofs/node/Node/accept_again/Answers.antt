-- What isn't accepted, by the log that is known.
use Rattle.std.proofs.Common.{sym}
use Rattle.paxos_node.proofs.Again.{again_is}
use Rattle.paxos_node.proofs.Logs.{standing_is}
use Rattle.paxos_node.proofs.node.Node.accept_again.Goals as goal

pub returns : goal.returns
returns c =
    let sent = rw (c.deref.ensures.value, c.in_ok-missing.ensures, c.ballot.ensures, standing_is c.args.turns.now c.requires.kept) at c.send_accepts.ensures in
    rw (← (again_is c.args.self.now c.args.turns.now.turns c.args.leader.now c.args.leader.now.proposals (sym c.requires.turns)), ← c.self.view_is) sent
