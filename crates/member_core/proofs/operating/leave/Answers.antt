use Rattle.std.proofs.lemmas.Result.{on_ok_weaker}
use Rattle.member_core.proofs.Operated.{may_leave, may_not_leave}
use Rattle.member_core.proofs.operating.leave.Goals as goal

pub returns-then-not-may_leave : goal.returns-then-not-may_leave
returns-then-not-may_leave c = on_ok_weaker c.refuse.result (λ d. may_not_leave c.args.moment.now c.refuse.new.moment c.if-not-may_leave.ensures d) c.refuse.ensures

pub returns : goal.returns
returns c = on_ok_weaker c.remove_self.result (λ d. may_leave c.args.moment.now c.remove_self.new.moment c.if-not-may_leave.ensures d) c.remove_self.ensures
