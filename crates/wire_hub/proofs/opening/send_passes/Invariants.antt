use Rattle.std.proofs.Common.{◌≡◌, [], map, take}
use Rattle.std.specs.List.{All}
use Rattle.wire_hub.specs.Posts.{taker}
use Rattle.wire_hub.specs.Passes.{send_name}
use Rattle.wire_hub.specs.Opening.{box_queue, take_view, take_tie, IsNew}
use Rattle.wire_hub.proofs.opening.send_passes.Given as goal

abbrev pub invariant-loop-name : goal.invariant-loop-name
invariant-loop-name l = record {
  ties : map take_tie l.takes.items ≡ map take_tie l.initial.takes.items;
  views : map take_view l.takes.items ≡ map (λ m. taker m (take l.name-index l.members) [] []) l.members;
  names : map send_name l.sends.items ≡ take l.name-index l.members;
  new : All (IsNew (map box_queue l.boxes.items) l.members) l.sends.items;
}
