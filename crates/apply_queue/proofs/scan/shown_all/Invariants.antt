-- Those so far.
use Rattle.std.proofs.Common.{◌≡◌, map, take}
use Rattle.apply_queue.specs.Queues.{shown}
use Rattle.apply_queue.proofs.scan.shown_all.Given as goal

abbrev pub invariant-loop-at : goal.invariant-loop-at
invariant-loop-at l = l.all.items ≡ map shown (take l.at l.entries.items)
