use Rattle.std.proofs.lemmas.Result.{on_ok_weaker}
use Rattle.std.proofs.Common.{refl}
use Rattle.group_rules.specs.Events.{Calls}
use Rattle.member_core.proofs.Acted.{takes_untold}
use Rattle.member_core.proofs.acting.take_call.Goals as goal

pub returns : goal.returns
returns c = on_ok_weaker c.call.result (λ d. takes_untold (Calls c.args.session c.args.request) c.args.moment.now c.call.new.self refl (λ base a e u st. c.some_events_come_untold.ensures base a e c.args.moment.now u st) d) c.call.ensures
