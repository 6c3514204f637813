-- Once there is nothing to propose, there is nothing more.
use Rattle.std.proofs.Common.{suc, ◌-◌, ◌++◌, append-nil, append_assoc, sym, ap, ◌∙◌, arith}
use Rattle.node_rules.specs.Node.{Node, Effect}
use Rattle.node_rules.specs.Proposing.{propose_times}
use Rattle.paxos_node.proofs.Proposes.{times_quiet}
use Rattle.paxos_node.proofs.node.Node.propose_all.Goals as goal

pub returns-then-not-branch-clause-node : goal.returns-then-not-branch-clause-node
returns-then-not-branch-clause-node c =
    let idle = c.in_ok-propose_one.ensures.more c.if-not-branch.true in
    let left = times_quiet (c.self.inside.horizon - c.loop-proposed.proposed) c.loop-proposed.self idle in
    c.in_ok-propose_one.ensures.node
    ∙ ap (λ (e : Effect). e.node) (idle ∙ sym left)
    ∙ c.loop-proposed.invariant.node (c.self.inside.horizon - c.loop-proposed.proposed) (omega arith)

pub returns-then-not-branch-clause-sent : goal.returns-then-not-branch-clause-sent
returns-then-not-branch-clause-sent c =
    let idle = c.in_ok-propose_one.ensures.more c.if-not-branch.true in
    let left = times_quiet (c.self.inside.horizon - c.loop-proposed.proposed) c.loop-proposed.self idle in
    c.in_ok-propose_one.ensures.sent
    ∙ ap (λ (e : Effect). c.loop-proposed.sent.items ++ e.sent) (idle ∙ sym left)
    ∙ c.loop-proposed.invariant.sent (c.self.inside.horizon - c.loop-proposed.proposed) (omega arith)

pub loop-proposed-preserved : goal.loop-proposed-preserved
loop-proposed-preserved c = record {
  node = λ k q. ap (λ (n : Node). (propose_times k n).node) c.in_ok-propose_one.ensures.node ∙ c.loop-proposed.invariant.node (suc k) (omega arith);
  sent = λ k q. rw (c.in_ok-propose_one.ensures.sent, c.in_ok-propose_one.ensures.node, append_assoc) (c.loop-proposed.invariant.sent (suc k) (omega arith));
}

pub returns-clause-node : goal.returns-clause-node
returns-clause-node c = c.loop-proposed.invariant.node 0 (omega arith)

pub returns-clause-sent : goal.returns-clause-sent
returns-clause-sent c = sym (append-nil c.loop-proposed.sent.items) ∙ c.loop-proposed.invariant.sent 0 (omega arith)
