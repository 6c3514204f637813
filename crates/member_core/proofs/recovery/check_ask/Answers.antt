use Rattle.std.proofs.lemmas.Result.{on_ok_weaker}
use Rattle.member_core.proofs.Asking.{checks_none, checks_nothing, checks_some}
use Rattle.member_core.proofs.recovery.check_ask.Goals as goal

pub returns-then-not-is_recovering : goal.returns-then-not-is_recovering
returns-then-not-is_recovering c = checks_nothing c.args.moment.now c.if-not-is_recovering.ensures

pub returns-in-None : goal.returns-in-None
returns-in-None c = checks_none c.args.moment.now c.if-not-is_recovering.ensures c.in-None.ensures

pub returns-in-Some : goal.returns-in-Some
returns-in-Some c = on_ok_weaker c.check_donor.result (λ d. checks_some c.in-Some.donor c.args.moment.now c.check_donor.new.moment c.if-not-is_recovering.ensures c.in-Some.ensures d) c.check_donor.ensures
