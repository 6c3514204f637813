use Rattle.std.proofs.lemmas.Result.{on_ok_weaker}
use Rattle.member_core.proofs.Acted.{takes_tick}
use Rattle.member_core.proofs.acting.take_tick.Goals as goal

pub returns : goal.returns
returns c = on_ok_weaker c.tick.result (λ d. takes_tick c.args.moment.now c.ticked.new.self c.tick.new.moment c.in_ok-ticked.ensures d) c.tick.ensures
