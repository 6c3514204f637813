-- One more is changed, and at the end all are.
use Rattle.std.proofs.Common.{refl, ◌∙◌}
use Rattle.local_sessions.specs.Others.{killed_by}
use Rattle.local_sessions.proofs.EachOne.{one_more, all_changed}
use Rattle.local_sessions.proofs.losing.kill_losers.Goals as goal

pub loop-x-init : goal.loop-x-init
loop-x-init c = refl

pub loop-x-preserved : goal.loop-x-preserved
loop-x-preserved c = rw (c.kill_loser.ensures, c.loop-x.invariant) (one_more (killed_by c.args.gtid c.args.losers.now) c.loop-x.x-index c.args.list.now _ c.loop-x-test.true)

pub returns : goal.returns
returns c = c.loop-x.invariant ∙ all_changed (killed_by c.args.gtid c.args.losers.now) c.loop-x.x-index c.args.list.now c.loop-x-test.false
