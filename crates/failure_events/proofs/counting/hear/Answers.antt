-- One more is changed, and at the end all are.
use Rattle.std.proofs.Common.{refl, ◌∙◌}
use Rattle.failure_events.specs.Counts.{heard_from}
use Rattle.failure_events.proofs.EachOne.{next_one, all_changed}
use Rattle.failure_events.proofs.counting.hear.Goals as goal

pub loop-silence-init : goal.loop-silence-init
loop-silence-init c = refl

pub loop-silence-preserved : goal.loop-silence-preserved
loop-silence-preserved c = rw (c.hear_one.ensures, c.loop-silence.invariant) (next_one (heard_from c.args.inc) c.loop-silence.silence-index c.args.silences.now _ c.loop-silence-test.true)

pub returns : goal.returns
returns c = c.loop-silence.invariant ∙ all_changed (heard_from c.args.inc) c.loop-silence.silence-index c.args.silences.now c.loop-silence-test.false
