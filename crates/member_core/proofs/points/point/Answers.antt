use Rattle.std.proofs.Common.{sym}
use Rattle.member_core.proofs.Pointing.{does_point, in_error}
use Rattle.std.proofs.lemmas.Result.{on_ok_weaker}
use Rattle.member_core.proofs.points.point.Goals as goal

pub returns-then-is_in_error : goal.returns-then-is_in_error
returns-then-is_in_error c = on_ok_weaker c.begin_all.result (λ d. in_error c.args.moment.now c.begin_all.new.self (λ base a st. sym (c.if-is_in_error.ensures base a st)) d) c.begin_all.ensures

pub returns : goal.returns
returns c = on_ok_weaker c.point_well.result (λ d. does_point c.args.moment.now c.point_well.new.moment (λ base a st. sym (c.if-is_in_error.ensures base a st)) d) c.point_well.ensures
