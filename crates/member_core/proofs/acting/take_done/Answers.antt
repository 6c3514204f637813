use Rattle.std.proofs.lemmas.Result.{on_ok_weaker}
use Rattle.std.proofs.Common.{refl}
use Rattle.std.specs.Prelude.{Some}
use Rattle.group_rules.specs.Events.{Works}
use Rattle.member_core.proofs.Acted.{takes_untold}
use Rattle.member_core.proofs.acting.take_done.Goals as goal

pub returns : goal.returns
returns c = on_ok_weaker c.work.result (λ d. takes_untold (Works c.args.done.place (Some c.args.done.body)) c.args.moment.now c.work.new.self refl (λ base a e u st. c.some_events_come_untold.ensures base a e c.args.moment.now u st) d) c.work.ensures
