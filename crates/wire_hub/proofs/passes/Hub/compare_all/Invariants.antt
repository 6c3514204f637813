use Rattle.std.proofs.Common.{◌≡◌, map, take}
use Rattle.std.specs.List.{All}
use Rattle.wire_hub.specs.Passes.{IsSendPassOf, IsTakePassOf, AreSent, what_of, got}
use Rattle.wire_hub.proofs.passes.Hub.compare_all.Given as goal

abbrev pub invariant-loop-place : goal.invariant-loop-place
invariant-loop-place g l = record {
  senders : All (IsSendPassOf l.self) l.sends.items;
  same : map what_of l.sends.items ≡ map what_of l.initial.sends.items;
  taker : IsTakePassOf l.self l.take;
  at : l.take.at ≡ l.initial.take.at;
  taken : got l.take ≡ got l.initial.take;
  begins : All (AreSent l.initial.take) (take l.place l.initial.sends.items);
}
