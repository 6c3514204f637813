use Rattle.std.proofs.lemmas.Result.{on_ok_weaker}
use Rattle.member_core.proofs.Ticked.{goes_on, offers_again}
use Rattle.member_core.proofs.ticking.tick_on.Goals as goal

pub returns-then-is_offline : goal.returns-then-is_offline
returns-then-is_offline c = on_ok_weaker c.offer_add.result (λ d. offers_again c.args.moment.now c.offer_add.new.self c.if-is_offline.ensures d) c.offer_add.ensures

pub returns : goal.returns
returns c = on_ok_weaker c.tick_inside.result (λ d. goes_on c.args.moment.now c.tick_inside.new.moment c.if-is_offline.ensures d) c.tick_inside.ensures
