-- The last configuration is that of the members.
use Rattle.std.proofs.Common.{Some, sym, ap, ◌∙◌}
use Rattle.paxos_node.proofs.Begins.{incs_told}
use Rattle.paxos_node.proofs.node.Node.begin.Goals as goal

pub resume-requires-clause-latest : goal.resume-requires-clause-latest
resume-requires-clause-latest c = rw c.in_ok-told_in.ensures (c.requires.latest ∙ ap Some (sym (incs_told c.args.welcome.now)))
