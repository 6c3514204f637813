use Rattle.std.proofs.lemmas.Result.{on_ok_weaker}
use Rattle.member_core.proofs.Asking.{asks_none, asks_one}
use Rattle.member_core.proofs.recovery.ask_donor.Goals as goal

pub returns-then-not-is_ask_due : goal.returns-then-not-is_ask_due
returns-then-not-is_ask_due c = on_ok_weaker c.reply.result (λ d. asks_none c.args.donor c.args.moment.now c.reply.new.self c.if-not-is_ask_due.ensures d) c.reply.ensures

pub returns : goal.returns
returns c = on_ok_weaker c.check_ask.result (λ d. asks_one c.args.donor c.args.moment.now c.ask.new.self c.check_ask.new.moment c.if-not-is_ask_due.ensures c.in_ok-ask.ensures d) c.check_ask.ensures
