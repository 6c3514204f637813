use Rattle.std.proofs.lemmas.Result.{on_ok_weaker}
use Rattle.member_core.specs.Standing.{event_of}
use Rattle.member_core.proofs.Acted.{does_alive, does_fallen}
use Rattle.member_core.proofs.acting.act.Goals as goal

pub returns-then-is_in_error : goal.returns-then-is_in_error
returns-then-is_in_error c = on_ok_weaker c.act_in_error.result (λ d. does_fallen (event_of c.args.event) c.args.moment.now c.act_in_error.new.moment c.if-is_in_error.ensures d) c.act_in_error.ensures

pub returns : goal.returns
returns c = on_ok_weaker c.act_alive.result (λ d. does_alive (event_of c.args.event) c.args.moment.now c.act_alive.new.moment c.if-is_in_error.ensures d) c.act_alive.ensures
