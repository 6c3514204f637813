use Rattle.std.proofs.lemmas.Result.{on_ok_weaker}
use Rattle.member_core.specs.declared.event.Event.TheVariants.{Message as Comes, Tick, Done, Undone, Session, Operate}
use Rattle.member_core.proofs.Acted.{comes_so, comes_well}
use Rattle.member_core.proofs.acting.act_alive.Goals as goal

pub returns-in-Message : goal.returns-in-Message
returns-in-Message c = on_ok_weaker c.take_message.result (λ d. comes_so c.args.event (Comes c.in-Message.message) c.args.moment.now c.take_message.new.moment c.in-Message.is d) c.take_message.ensures

pub returns-in-Tick : goal.returns-in-Tick
returns-in-Tick c = on_ok_weaker c.take_tick.result (λ d. comes_well c.args.event Tick c.args.moment.now c.take_tick.new.moment c.in-Tick.is d) c.take_tick.ensures

pub returns-in-Done : goal.returns-in-Done
returns-in-Done c = on_ok_weaker c.take_done.result (λ d. comes_so c.args.event (Done c.in-Done.done) c.args.moment.now c.take_done.new.moment c.in-Done.is d) c.take_done.ensures

pub returns-in-Undone : goal.returns-in-Undone
returns-in-Undone c = on_ok_weaker c.take_undone.result (λ d. comes_so c.args.event (Undone c.in-Undone.place) c.args.moment.now c.take_undone.new.moment c.in-Undone.is d) c.take_undone.ensures

pub returns-in-Session : goal.returns-in-Session
returns-in-Session c = on_ok_weaker c.take_call.result (λ d. comes_so c.args.event (Session c.in-Session.session c.in-Session.request) c.args.moment.now c.take_call.new.moment c.in-Session.is d) c.take_call.ensures

pub returns-in-Operate : goal.returns-in-Operate
returns-in-Operate c = on_ok_weaker c.take_operator.result (λ d. comes_so c.args.event (Operate c.in-Operate.operator) c.args.moment.now c.take_operator.new.moment c.in-Operate.is d) c.take_operator.ensures
