use Rattle.std.proofs.lemmas.Result.{on_ok_weaker}
use Rattle.member_core.proofs.Slotting.{does_settle}
use Rattle.member_core.proofs.slots.settle_slots.Goals as goal

pub returns : goal.returns
returns c =
    on_ok_weaker c.settle_more.result
    (λ d. does_settle c.in_ok-take_slots.field-0 c.args.moment.now c.take_slots.new.moment c.propose.new.moment c.settle_more.new.moment c.in_ok-take_slots.ensures c.in_ok-propose.ensures d) c.settle_more.ensures
