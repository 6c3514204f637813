-- None so far is the place.
use Rattle.std.proofs.Common.{◌≡◌, true, not, take}
use Rattle.std.specs.List.{list_all}
use Rattle.apply_queue.specs.Queues.{is_at}
use Rattle.apply_queue.proofs.scan.index_of.Given as goal

abbrev pub invariant-loop-at : goal.invariant-loop-at
invariant-loop-at l = list_all (λ q. not (is_at l.place q)) (take l.at l.entries.items) ≡ true
