use Rattle.std.proofs.Common.{◌∙◌}
use Rattle.group_rules.specs.Points.{commit_one}
use Rattle.member_core.proofs.Pointing.{commits_none, ends_at, next_committed, none_done}
use Rattle.member_core.proofs.points.commit_all.Goals as goal

pub returns-then-commits_none : goal.returns-then-commits_none
returns-then-commits_none c = commits_none c.args.moment.now (c.commits_none.ensures.none c.if-commits_none.true)

pub loop-one-init : goal.loop-one-init
loop-one-init c = none_done commit_one c.deref-one-items.result.now c.args.moment.now (λ base a st. c.deref-one-items.ensures.value ∙ c.in_ok-waiting.ensures base a st)

pub loop-one-preserved : goal.loop-one-preserved
loop-one-preserved c =
    next_committed c.deref-one-items.result.now c.loop-one.one-index c.one-item.result c.args.moment.now c.loop-one.moment c.commit_one.new.self c.loop-one-test.true c.one-item.is c.loop-one.invariant c.in_ok-commit_one.ensures

pub returns : goal.returns
returns c = ends_at commit_one c.deref-one-items.result.now c.loop-one.one-index c.args.moment.now c.loop-one.moment c.loop-one-test.false c.loop-one.invariant
