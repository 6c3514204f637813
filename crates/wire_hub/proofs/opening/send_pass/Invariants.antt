use Rattle.std.proofs.Common.{◌≡◌, ◌++◌, map, take, drop}
use Rattle.wire_hub.specs.Posts.{making, newcomer}
use Rattle.wire_hub.specs.Passes.{queue_of}
use Rattle.wire_hub.specs.Opening.{box_queue, take_view, take_tie, port_view}
use Rattle.wire_hub.proofs.opening.send_pass.Given as goal

abbrev pub invariant-loop-place : goal.invariant-loop-place
invariant-loop-place l = record {
  ties : map take_tie l.takes.items ≡ map take_tie l.initial.takes.items;
  views : map take_view l.takes.items ≡ map (making l.name) (take l.place (map take_view l.initial.takes.items)) ++ drop l.place (map take_view l.initial.takes.items);
  queues : map queue_of l.ports.items ≡ take l.place (map box_queue l.boxes.items);
  ports : map port_view l.ports.items ≡ take l.place (map (newcomer l.name) (map take_view l.initial.takes.items));
}
