-- None so far waits.
use Rattle.std.proofs.Common.{◌≡◌, true, not, take}
use Rattle.std.specs.List.{list_all}
use Rattle.apply_queue.specs.Queues.{is_waiting}
use Rattle.apply_queue.proofs.scan.first_waiting_from.Given as goal

abbrev pub invariant-loop-at : goal.invariant-loop-at
invariant-loop-at l = list_all (λ q. not (is_waiting q)) (take l.at l.entries.items) ≡ true
