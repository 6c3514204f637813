-- Those so far are changed.
use Rattle.std.proofs.Common.{◌≡◌}
use Rattle.failure_events.specs.Counts.{heard_from}
use Rattle.failure_events.proofs.EachOne.{changed_to}
use Rattle.failure_events.proofs.counting.hear.Given as goal

abbrev pub invariant-loop-silence : goal.invariant-loop-silence
invariant-loop-silence l = l.silences ≡ changed_to (heard_from l.inc) l.silence-index l.initial.silences
