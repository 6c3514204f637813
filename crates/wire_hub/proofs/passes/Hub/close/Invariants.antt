use Rattle.std.proofs.Common.{◌≡◌, map, take, drop}
use Rattle.std.specs.List.{All}
use Rattle.wire_hub.specs.Passes.{IsSendPassOf, AreSent, what_of}
use Rattle.wire_hub.proofs.passes.Hub.close.Given as goal

abbrev pub invariant-loop-place : goal.invariant-loop-place
invariant-loop-place g l = record {
  senders : All (IsSendPassOf l.self) l.sends.items;
  same : map what_of l.sends.items ≡ map what_of l.initial.sends.items;
  rest : drop l.place l.takes.items ≡ drop l.place l.initial.takes.items;
  begins : All (λ take. All (AreSent take) l.initial.sends.items) (take l.place l.initial.takes.items);
}
