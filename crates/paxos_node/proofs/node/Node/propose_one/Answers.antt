-- The proposal is the choice of the proposing rule, or there is none.
use Rattle.std.proofs.Common.{◌≡◌, Some, None, append-nil, sym, ap, ◌∙◌}
use Rattle.node_rules.specs.Node.{Effect}
use Rattle.paxos_node.specs.Parts.{log_of}
use Rattle.paxos_node.specs.contracts.node.Node.{the_view}
use Rattle.paxos_node.proofs.Proposes.{chosen_is, unchosen, unchosen_leader}
use Rattle.paxos_node.proofs.node.Node.propose_one.Goals as goal

pub returns-in_default-clause-more : goal.returns-in_default-clause-more
returns-in_default-clause-more c = rw (← c.self.view_is) (λ _. unchosen (the_view c.self.inside) (sym c.in_default.is ∙ c.in_ok-chosen.ensures.slot))

pub returns-in_default-clause-node : goal.returns-in_default-clause-node
returns-in_default-clause-node c =
    let none = sym c.in_default.is ∙ c.in_ok-chosen.ensures.slot in
    let same : c.choose.new.leader ≡ c.self.inside.leader = c.in_ok-chosen.ensures.ok ∙ unchosen_leader c.self.inside.learner (log_of c.self.inside.turns) c.self.inside.horizon c.self.inside.leader none in
    rw (← c.self.view_is, same) (ap (λ (e : Effect). e.node) (sym (unchosen (the_view c.self.inside) none)))

pub returns-in_default-clause-sent : goal.returns-in_default-clause-sent
returns-in_default-clause-sent c = rw (← c.self.view_is, unchosen (the_view c.self.inside) (sym c.in_default.is ∙ c.in_ok-chosen.ensures.slot)) (sym (append-nil c.args.sent.now.items))

pub returns-in_default-2-clause-more : goal.returns-in_default-2-clause-more
returns-in_default-2-clause-more c =
    let k = chosen_is (the_view c.self.inside) c.choose.new.leader c.in-Some.slot c.in_ok-vote.field-0 (sym c.in-Some.is ∙ c.in_ok-chosen.ensures.slot) c.in_ok-chosen.ensures.ok c.in_ok-vote.ensures in
    absurd (let no : None ≡ Some k.vote = sym c.in_default-2.is ∙ k.is in cc)

pub returns-in_default-2-clause-node : goal.returns-in_default-2-clause-node
returns-in_default-2-clause-node c =
    let k = chosen_is (the_view c.self.inside) c.choose.new.leader c.in-Some.slot c.in_ok-vote.field-0 (sym c.in-Some.is ∙ c.in_ok-chosen.ensures.slot) c.in_ok-chosen.ensures.ok c.in_ok-vote.ensures in
    absurd (let no : None ≡ Some k.vote = sym c.in_default-2.is ∙ k.is in cc)

pub returns-in_default-2-clause-sent : goal.returns-in_default-2-clause-sent
returns-in_default-2-clause-sent c =
    let k = chosen_is (the_view c.self.inside) c.choose.new.leader c.in-Some.slot c.in_ok-vote.field-0 (sym c.in-Some.is ∙ c.in_ok-chosen.ensures.slot) c.in_ok-chosen.ensures.ok c.in_ok-vote.ensures in
    absurd (let no : None ≡ Some k.vote = sym c.in_default-2.is ∙ k.is in cc)

pub cast-requires : goal.cast-requires
cast-requires c =
    let k = chosen_is (the_view c.self.inside) c.choose.new.leader c.in-Some.slot c.in_ok-vote.field-0 (sym c.in-Some.is ∙ c.in_ok-chosen.ensures.slot) c.in_ok-chosen.ensures.ok c.in_ok-vote.ensures in
    let same : k.vote ≡ c.in-Some-2.vote = (let e : Some k.vote ≡ Some c.in-Some-2.vote = sym k.is ∙ c.in-Some-2.is in cc) in
    rw (← same) k.low

pub returns-clause-node : goal.returns-clause-node
returns-clause-node c =
    let k = chosen_is (the_view c.self.inside) c.choose.new.leader c.in-Some.slot c.in_ok-vote.field-0 (sym c.in-Some.is ∙ c.in_ok-chosen.ensures.slot) c.in_ok-chosen.ensures.ok c.in_ok-vote.ensures in
    let same : k.vote ≡ c.in-Some-2.vote = (let e : Some k.vote ≡ Some c.in-Some-2.vote = sym k.is ∙ c.in-Some-2.is in cc) in
    rw (← c.self.view_is, k.one, same) c.in_ok-cast.ensures.node

pub returns-clause-sent : goal.returns-clause-sent
returns-clause-sent c =
    let k = chosen_is (the_view c.self.inside) c.choose.new.leader c.in-Some.slot c.in_ok-vote.field-0 (sym c.in-Some.is ∙ c.in_ok-chosen.ensures.slot) c.in_ok-chosen.ensures.ok c.in_ok-vote.ensures in
    let same : k.vote ≡ c.in-Some-2.vote = (let e : Some k.vote ≡ Some c.in-Some-2.vote = sym k.is ∙ c.in-Some-2.is in cc) in
    rw (← c.self.view_is, k.one, same) c.in_ok-cast.ensures.sent
