use Rattle.member_core.proofs.Pointing.{does_arrive, does_not_arrive}
use Rattle.std.proofs.lemmas.Result.{on_ok_weaker}
use Rattle.member_core.proofs.points.arrive.Goals as goal

pub returns-then-not-is_arriving : goal.returns-then-not-is_arriving
returns-then-not-is_arriving c = does_not_arrive c.args.moment.now c.if-not-is_arriving.ensures

pub returns : goal.returns
returns c = on_ok_weaker c.own_body.result (λ d. does_arrive c.args.moment.now c.own_body.new.self c.in_ok-executed.executed c.if-not-is_arriving.ensures c.in_ok-executed.ensures d) c.own_body.ensures
