use Rattle.std.proofs.lemmas.Result.{on_ok_weaker}
use Rattle.std.proofs.Common.{refl}
use Rattle.std.specs.Prelude.{None}
use Rattle.group_rules.specs.Events.{Works}
use Rattle.member_core.proofs.Acted.{takes_untold}
use Rattle.member_core.proofs.acting.take_undone.Goals as goal

pub returns : goal.returns
returns c = on_ok_weaker c.reply.result (λ d. takes_untold (Works c.args.place None) c.args.moment.now c.reply.new.self refl (λ base a e u st. c.some_events_come_untold.ensures base a e c.args.moment.now u st) d) c.reply.ensures
