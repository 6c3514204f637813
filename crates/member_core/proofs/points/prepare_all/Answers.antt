use Rattle.std.proofs.Common.{◌∙◌}
use Rattle.group_rules.specs.Points.{prepare_one}
use Rattle.member_core.proofs.Pointing.{ends_at, next_prepared, none_done, prepares_none}
use Rattle.member_core.proofs.points.prepare_all.Goals as goal

pub returns-then-prepares_none : goal.returns-then-prepares_none
returns-then-prepares_none c = prepares_none c.args.moment.now (c.prepares_none.ensures.none c.if-prepares_none.true)

pub loop-one-init : goal.loop-one-init
loop-one-init c = none_done prepare_one c.deref-one-items.result.now c.args.moment.now (λ base a st. c.deref-one-items.ensures.value ∙ c.in_ok-waiting.ensures base a st)

pub loop-one-preserved : goal.loop-one-preserved
loop-one-preserved c =
    next_prepared c.deref-one-items.result.now c.loop-one.one-index c.one-item.result c.args.moment.now c.loop-one.moment c.prepare_one.new.moment c.loop-one-test.true c.one-item.is c.loop-one.invariant c.in_ok-prepare_one.ensures

pub returns : goal.returns
returns c = ends_at prepare_one c.deref-one-items.result.now c.loop-one.one-index c.args.moment.now c.loop-one.moment c.loop-one-test.false c.loop-one.invariant
