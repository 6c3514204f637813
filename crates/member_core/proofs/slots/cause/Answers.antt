use Rattle.member_moment.specs.declared.taking.Caused.TheVariants.{Conflict, Removal}
use Rattle.std.proofs.lemmas.Result.{on_ok_weaker}
use Rattle.member_core.proofs.Slotting.{arrives_so, causes_so, welcomes_so}
use Rattle.member_core.proofs.slots.cause.Goals as goal

pub returns-in-Conflict : goal.returns-in-Conflict
returns-in-Conflict c = on_ok_weaker c.conflict.result (λ d. causes_so c.args.moment.now c.conflict.new.self c.args.caused (Conflict c.in-Conflict.id c.in-Conflict.gtid) c.in-Conflict.is d) c.conflict.ensures

pub returns-in-Welcome : goal.returns-in-Welcome
returns-in-Welcome c = on_ok_weaker c.greet.result (λ d. welcomes_so c.args.moment.now c.greet.new.self c.args.caused c.in-Welcome.inc c.in-Welcome.is d) c.greet.ensures

pub returns-in-Removal : goal.returns-in-Removal
returns-in-Removal c = on_ok_weaker c.fall.result (λ d. causes_so c.args.moment.now c.fall.new.self c.args.caused Removal c.in-Removal.is d) c.fall.ensures

pub returns-in-Arrival : goal.returns-in-Arrival
returns-in-Arrival c = on_ok_weaker c.come_online.result (λ d. arrives_so c.args.moment.now c.come_online.new.self c.args.caused c.in-Arrival.is d) c.come_online.ensures
