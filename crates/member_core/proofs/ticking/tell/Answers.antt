use Rattle.std.proofs.lemmas.Result.{on_ok_weaker}
use Rattle.member_core.proofs.Ticked.{tells_not, tells_now}
use Rattle.member_core.proofs.ticking.tell.Goals as goal

pub returns-then-not-is_telling : goal.returns-then-not-is_telling
returns-then-not-is_telling c = tells_not c.args.moment.now c.if-not-is_telling.ensures

pub returns : goal.returns
returns c = on_ok_weaker c.own_body.result (λ d. tells_now c.in_ok-executed.executed c.args.moment.now c.own_body.new.self c.if-not-is_telling.ensures c.in_ok-executed.ensures d) c.own_body.ensures
