-- What was counted decides the slot, or nothing.
use Rattle.std.proofs.Common.{◌≡◌, true, Some, None, append-nil, sym, ap, ◌∙◌}
use Rattle.node_rules.specs.Node.{Effect}
use Rattle.paxos_node.specs.Leading.{leads_at, own_vote, settling}
use Rattle.paxos_node.specs.Parts.{log_of}
use Rattle.paxos_node.specs.contracts.node.Node.{the_view}
use Rattle.paxos_node.proofs.Accepts.{accepted_is}
use Rattle.paxos_node.proofs.node.Node.hear_accepted.Goals as goal

pub returns-in_default-clause-node : goal.returns-in_default-clause-node
returns-in_default-clause-node c =
    let leads : leads_at c.args.ballot c.self.inside.leader ≡ true = sym c.leads_at.ensures ∙ c.if-not-leads_at.false in
    let settles : settling c.self.inside.learner (log_of c.self.inside.turns) c.args.from c.args.slot c.self.inside.leader ≡ true = sym c.in_ok-count.ensures.answer ∙ c.if-not-branch.false in
    let none : None ≡ own_vote c.args.slot c.count.new.leader = sym c.in_default.is ∙ c.in_ok-vote.ensures in
    rw (← c.self.view_is) (ap (λ (e : Effect). e.node) (sym (accepted_is c.args.from c.args.ballot c.args.slot (the_view c.self.inside) c.count.new.leader None leads settles c.in_ok-count.ensures.ok none)))

pub returns-in_default-clause-sent : goal.returns-in_default-clause-sent
returns-in_default-clause-sent c =
    let leads : leads_at c.args.ballot c.self.inside.leader ≡ true = sym c.leads_at.ensures ∙ c.if-not-leads_at.false in
    let settles : settling c.self.inside.learner (log_of c.self.inside.turns) c.args.from c.args.slot c.self.inside.leader ≡ true = sym c.in_ok-count.ensures.answer ∙ c.if-not-branch.false in
    let none : None ≡ own_vote c.args.slot c.count.new.leader = sym c.in_default.is ∙ c.in_ok-vote.ensures in
    rw (← c.self.view_is, accepted_is c.args.from c.args.ballot c.args.slot (the_view c.self.inside) c.count.new.leader None leads settles c.in_ok-count.ensures.ok none) (sym (append-nil c.args.sent.now.items))

pub returns-clause-node : goal.returns-clause-node
returns-clause-node c =
    let leads : leads_at c.args.ballot c.self.inside.leader ≡ true = sym c.leads_at.ensures ∙ c.if-not-leads_at.false in
    let settles : settling c.self.inside.learner (log_of c.self.inside.turns) c.args.from c.args.slot c.self.inside.leader ≡ true = sym c.in_ok-count.ensures.answer ∙ c.if-not-branch.false in
    let some : Some c.in-Some.vote ≡ own_vote c.args.slot c.count.new.leader = sym c.in-Some.is ∙ c.in_ok-vote.ensures in
    rw (← c.self.view_is, accepted_is c.args.from c.args.ballot c.args.slot (the_view c.self.inside) c.count.new.leader (Some c.in-Some.vote) leads settles c.in_ok-count.ensures.ok some) c.settle.ensures.node

pub returns-clause-sent : goal.returns-clause-sent
returns-clause-sent c =
    let leads : leads_at c.args.ballot c.self.inside.leader ≡ true = sym c.leads_at.ensures ∙ c.if-not-leads_at.false in
    let settles : settling c.self.inside.learner (log_of c.self.inside.turns) c.args.from c.args.slot c.self.inside.leader ≡ true = sym c.in_ok-count.ensures.answer ∙ c.if-not-branch.false in
    let some : Some c.in-Some.vote ≡ own_vote c.args.slot c.count.new.leader = sym c.in-Some.is ∙ c.in_ok-vote.ensures in
    rw (← c.self.view_is, accepted_is c.args.from c.args.ballot c.args.slot (the_view c.self.inside) c.count.new.leader (Some c.in-Some.vote) leads settles c.in_ok-count.ensures.ok some) c.settle.ensures.sent
