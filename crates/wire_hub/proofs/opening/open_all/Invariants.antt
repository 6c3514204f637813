use Rattle.std.proofs.Common.{◌≡◌, [], map, take, length}
use Rattle.wire_hub.specs.Posts.{taker}
use Rattle.wire_hub.specs.Opening.{AreInOrder, box_queue, take_queue, take_view}
use Rattle.wire_hub.proofs.opening.open_all.Given as goal

abbrev pub invariant-loop-at : goal.invariant-loop-at
invariant-loop-at l = record {
  queues : map take_queue l.takes.items ≡ map box_queue l.boxes.items;
  views : map take_view l.takes.items ≡ take l.at (map (λ m. taker m [] [] []) l.members);
  count : length l.takes.items ≡ l.at;
  order : AreInOrder l.takes.items;
}
