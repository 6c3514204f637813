-- One more is changed, and at the end all are.
use Rattle.std.proofs.Common.{refl, ◌∙◌}
use Rattle.failure_events.specs.Counts.{one_more}
use Rattle.failure_events.proofs.EachOne.{next_one, all_changed}
use Rattle.failure_events.proofs.counting.tick_each.Goals as goal

pub loop-silence-init : goal.loop-silence-init
loop-silence-init c = refl

pub loop-silence-preserved : goal.loop-silence-preserved
loop-silence-preserved c = rw (c.tick_one.ensures, c.loop-silence.invariant) (next_one one_more c.loop-silence.silence-index c.args.silences.now _ c.loop-silence-test.true)

pub returns : goal.returns
returns c = c.loop-silence.invariant ∙ all_changed one_more c.loop-silence.silence-index c.args.silences.now c.loop-silence-test.false
