use Rattle.std.proofs.lemmas.Result.{on_ok_weaker}
use Rattle.member_core.proofs.Acted.{holds_not, holds_now}
use Rattle.member_core.proofs.holding.tell_if_held.Goals as goal

pub returns-then-not-is_held : goal.returns-then-not-is_held
returns-then-not-is_held c = holds_not c.args.session c.args.moment.now c.if-not-is_held.ensures

pub returns : goal.returns
returns c = on_ok_weaker c.answer.result (λ d. holds_now c.args.session c.args.moment.now c.answer.new.self c.if-not-is_held.ensures d) c.answer.ensures
