use Rattle.std.proofs.Common.{◌<◌, length, ◌∙◌, sym, arith}
use Rattle.std.specs.List.{All}
use Rattle.wire_hub.specs.Passes.{AreSent, IsTakePassOf}
use Rattle.wire_hub.proofs.Openings.{all_at}
use Rattle.wire_hub.proofs.Closings.{next_taker, at_rest, rest_there, rest_next, whole}
use Rattle.wire_hub.proofs.passes.Hub.close.Goals as goal

pub compare_all-requires : goal.compare_all-requires
compare_all-requires g c =
    let now = c.loop-place.invariant in let k = c.loop-place.place in let l : k < length c.args.takes.items = omega arith in
    let there = rest_there c.loop-place.takes.items c.args.takes.items k c.index_mut.result.now now.rest l c.index_mut.ensures.value in
    record { own = (now.senders, all_at (IsTakePassOf c.args.self) c.args.takes.items k c.index_mut.result.now c.requires.takes (sym (at_rest c.loop-place.takes.items c.args.takes.items k now.rest) ∙ there)) }

pub loop-place-preserved : goal.loop-place-preserved
loop-place-preserved g c =
    let now = c.loop-place.invariant in let k = c.loop-place.place in let l : k < length c.args.takes.items = omega arith in let t = c.index_mut.result.now in let e = c.compare_all.ensures in
    let there = rest_there c.loop-place.takes.items c.args.takes.items k t now.rest l c.index_mut.ensures.value in
    record {
      senders = e.senders.0;
      same = e.senders.1 ∙ now.same;
      rest = rest_next c.loop-place.takes.items c.args.takes.items k c.compare_all.new.take now.rest;
      begins = next_taker c.args.sends.items c.loop-place.sends.items c.args.takes.items c.loop-place.takes.items k t now.rest now.same there e.begins now.begins;
    }

pub returns : goal.returns
returns g c = whole (λ take. All (AreSent take) c.args.sends.items) c.args.takes.items c.loop-place.place (omega arith) c.loop-place.invariant.begins
