use Rattle.std.proofs.lemmas.Result.{on_ok_weaker}
use Rattle.member_core.proofs.Ticked.{ticks_so}
use Rattle.member_core.proofs.ticking.tick.Goals as goal

pub returns : goal.returns
returns c = on_ok_weaker c.tick_on.result (λ d. ticks_so c.args.moment.now c.time_out_all.new.self c.tick_on.new.moment c.in_ok-time_out_all.ensures d) c.tick_on.ensures
