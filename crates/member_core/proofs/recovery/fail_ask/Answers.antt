use Rattle.std.proofs.lemmas.Result.{on_ok_weaker}
use Rattle.member_core.proofs.Asking.{fails_last, fails_on}
use Rattle.member_core.proofs.recovery.fail_ask.Goals as goal

pub returns-then-not-is_last : goal.returns-then-not-is_last
returns-then-not-is_last c = fails_on c.args.moment.now c.ask_fails-is_last.new.self c.if-not-is_last.ensures.last c.if-not-is_last.ensures.failed

pub returns : goal.returns
returns c = on_ok_weaker c.fall.result (λ d. fails_last c.args.moment.now c.ask_fails-is_last.new.self c.fall.new.self c.if-not-is_last.ensures.last c.if-not-is_last.ensures.failed d) c.fall.ensures
