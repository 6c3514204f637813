use Rattle.std.proofs.Common.{Some, None}
use Rattle.std.proofs.lemmas.Result.{on_ok_weaker}
use Rattle.member_core.proofs.Acted.{holds_by}
use Rattle.member_core.proofs.holding.tell_held.Goals as goal

pub returns-in-None : goal.returns-in-None
returns-in-None c = holds_by c.args.caller None c.args.moment.now c.args.moment.now c.in-None.is (λ base a k st. st)

pub returns-in-Some : goal.returns-in-Some
returns-in-Some c = on_ok_weaker c.tell_if_held.result (λ d. holds_by c.args.caller (Some c.in-Some.session) c.args.moment.now c.tell_if_held.new.moment c.in-Some.is d) c.tell_if_held.ensures
