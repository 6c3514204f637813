use Rattle.std.proofs.Common.{◌<◌, length, ◌∙◌, arith}
use Rattle.std.proofs.lemmas.List.Elements.{All-set}
use Rattle.wire_hub.specs.Passes.{IsSendPassOf, what_of, AreSent}
use Rattle.wire_hub.proofs.Maps.{map_kept}
use Rattle.wire_hub.proofs.Closings.{next_sender, same_length, whole}
use Rattle.wire_hub.proofs.passes.Hub.compare_all.Goals as goal

pub loop-place-preserved : goal.loop-place-preserved
loop-place-preserved g c =
    let now = c.loop-place.invariant in let k = c.loop-place.place in let sends = c.loop-place.sends.items in let s = c.index_mut.result.now in let is = c.index_mut.ensures.value in let e = c.compare.ensures in
    let l : k < length sends = omega (arith, same_length sends c.args.sends.now.items now.same) in
    record {
      senders = All-set (IsSendPassOf c.args.self.now) sends k c.compare.new.send e.sender.0 now.senders;
      same = map_kept what_of sends k s c.compare.new.send is (λ i. (e.sender.1 i, e.sender.2 i)) ∙ now.same;
      taker = e.taker.0;
      at = e.taker.1 ∙ now.at;
      taken = e.taker.2 ∙ now.taken;
      begins = next_sender c.args.sends.now.items sends k s c.args.take.now c.loop-place.take now.same l is now.taken now.at e.begins now.begins;
    }

pub returns-clause-begins : goal.returns-clause-begins
returns-clause-begins g c = whole (AreSent c.args.take.now) c.args.sends.now.items c.loop-place.place (omega arith) c.loop-place.invariant.begins
