-- Those so far are changed.
use Rattle.std.proofs.Common.{◌≡◌}
use Rattle.failure_events.specs.Counts.{one_more}
use Rattle.failure_events.proofs.EachOne.{changed_to}
use Rattle.failure_events.proofs.counting.tick_each.Given as goal

abbrev pub invariant-loop-silence : goal.invariant-loop-silence
invariant-loop-silence l = l.silences ≡ changed_to one_more l.silence-index l.initial.silences
