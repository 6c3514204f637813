use Rattle.std.proofs.lemmas.Result.{on_ok_weaker}
use Rattle.member_core.proofs.Listening.{add_fits, adds_else, adds_none, adds_one}
use Rattle.member_core.proofs.hearing.hear_add.Goals as goal

pub returns-in_default : goal.returns-in_default
returns-in_default c = adds_else c.args.what c.args.moment.now c.in_default.not-Add

pub returns-then-not-is_up : goal.returns-then-not-is_up
returns-then-not-is_up c = adds_none c.args.what c.in-Add.joiner c.args.moment.now c.in-Add.is c.if-not-is_up.ensures

pub own_change-requires : goal.own_change-requires
own_change-requires c = add_fits c.args.what c.in-Add.joiner c.in-Add.is c.requires

pub returns : goal.returns
returns c = on_ok_weaker c.own_change.result (λ d. adds_one c.args.what c.in-Add.joiner c.args.moment.now c.own_change.new.self c.in-Add.is c.if-not-is_up.ensures d) c.own_change.ensures
