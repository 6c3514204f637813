use Rattle.std.proofs.lemmas.Result.{on_ok_weaker}
use Rattle.member_core.proofs.Ticked.{campaigns_not, campaigns_now}
use Rattle.member_core.proofs.ticking.campaign_if_due.Goals as goal

pub returns-then-not-needs_leader : goal.returns-then-not-needs_leader
returns-then-not-needs_leader c = campaigns_not c.args.moment.now c.if-not-needs_leader.ensures

pub returns : goal.returns
returns c = on_ok_weaker c.at_node.result (λ d. campaigns_now c.args.moment.now c.at_node.new.self c.if-not-needs_leader.ensures (d tt)) c.at_node.ensures.does
