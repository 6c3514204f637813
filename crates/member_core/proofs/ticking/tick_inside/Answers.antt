use Rattle.std.proofs.lemmas.Result.{on_ok_weaker}
use Rattle.member_core.proofs.Ticked.{gives_up_now, ticks_inside}
use Rattle.member_core.proofs.ticking.tick_inside.Goals as goal

pub returns-then-gives_up : goal.returns-then-gives_up
returns-then-gives_up c = on_ok_weaker c.fall.result (λ d. gives_up_now c.args.moment.now c.fall.new.self c.if-gives_up.ensures d) c.fall.ensures

pub returns : goal.returns
returns c =
    on_ok_weaker c.tell.result
    (λ d. ticks_inside c.args.moment.now c.at_node.new.self c.look_after.new.moment c.tell.new.moment c.if-gives_up.ensures (c.in_ok-at_node.ensures.does tt) c.in_ok-look_after.ensures d) c.tell.ensures
