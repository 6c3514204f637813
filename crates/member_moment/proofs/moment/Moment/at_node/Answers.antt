-- The node's step, and its messages.
use Rattle.std.proofs.Common.{refl}
use Rattle.std.proofs.lemmas.Result.{on_ok_weaker}
use Rattle.group_rules.specs.Member.{at_node}
use Rattle.member_moment.proofs.Ordered.{at_rest, stands_at}
use Rattle.member_moment.proofs.moment.Moment.at_node.Goals as goal

pub returns-clause-rest : goal.returns-clause-rest
returns-clause-rest c = on_ok_weaker c.send_all.result (λ s base a given r. at_rest c.args.event.now base a c.args.self.now _ refl c.in_ok-sent.ensures.node s c.in_ok-sent.ensures.sent given c.requires.other c.in_ok-sent.ensures.votes c.members_stay_in_range.ensures.node c.members_stay_in_range.ensures.messages r) c.send_all.ensures

pub returns-clause-does : goal.returns-clause-does
returns-clause-does c = on_ok_weaker c.send_all.result (λ s given. stands_at (λ a. at_node c.args.event.now a) (λ a. refl) (λ a. refl) (λ a. refl) c.args.self.now _ refl
    (λ base a r. at_rest c.args.event.now base a c.args.self.now _ refl c.in_ok-sent.ensures.node s c.in_ok-sent.ensures.sent given c.requires.other c.in_ok-sent.ensures.votes c.members_stay_in_range.ensures.node c.members_stay_in_range.ensures.messages r)) c.send_all.ensures
