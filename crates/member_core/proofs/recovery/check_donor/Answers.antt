use Rattle.std.proofs.lemmas.Result.{on_ok_weaker}
use Rattle.member_core.proofs.Asking.{donor_goes, donor_stays}
use Rattle.member_core.proofs.recovery.check_donor.Goals as goal

pub returns-then-not-learnt_remove : goal.returns-then-not-learnt_remove
returns-then-not-learnt_remove c = donor_stays c.args.donor c.node.result.now c.args.moment.now c.node.ensures c.if-not-learnt_remove.ensures

pub returns : goal.returns
returns c = on_ok_weaker c.fail_ask.result (λ d. donor_goes c.args.donor c.node.result.now c.args.moment.now c.fail_ask.new.moment c.node.ensures c.if-not-learnt_remove.ensures d) c.fail_ask.ensures
