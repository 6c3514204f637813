use Rattle.std.proofs.lemmas.Result.{on_ok_weaker}
use Rattle.member_core.proofs.Ticked.{looks, looks_not}
use Rattle.member_core.proofs.ticking.look_after.Goals as goal

pub returns-then-not-leads : goal.returns-then-not-leads
returns-then-not-leads c = looks_not c.in_ok-leads.leads c.args.moment.now c.if-not-leads.true c.in_ok-leads.ensures

pub returns : goal.returns
returns c =
    on_ok_weaker c.campaign_if_due.result
    (λ d. looks c.in_ok-leads.leads c.args.moment.now c.expel_all.new.moment c.campaign_if_due.new.moment c.if-not-leads.false c.in_ok-leads.ensures c.in_ok-expel_all.ensures d) c.campaign_if_due.ensures
