use Rattle.member_core.proofs.Pointing.{does_well}
use Rattle.std.proofs.lemmas.Result.{on_ok_weaker}
use Rattle.member_core.proofs.points.point_well.Goals as goal

pub returns : goal.returns
returns c =
    on_ok_weaker c.arrive.result
    (λ d. does_well c.args.moment.now c.commit_all.new.moment c.prepare_all.new.moment c.begin_all.new.self c.arrive.new.moment c.in_ok-commit_all.ensures c.in_ok-prepare_all.ensures c.in_ok-begin_all.ensures d) c.arrive.ensures
