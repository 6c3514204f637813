-- It isn't among those so far.
use Rattle.std.proofs.Common.{◌≡◌, drop}
use Rattle.group_rules.specs.Watch.{silence_in}
use Rattle.failure_events.proofs.counting.silence_of.Given as goal

abbrev pub invariant-loop-silence : goal.invariant-loop-silence
invariant-loop-silence l = silence_in (drop l.silence-index l.silences) l.inc ≡ silence_in l.silences l.inc
