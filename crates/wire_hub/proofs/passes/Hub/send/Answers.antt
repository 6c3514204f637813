use Rattle.std.proofs.Common.{refl, ap}
use Rattle.wire_hub.specs.declared.view.View.{View}
use Rattle.wire_hub.proofs.Ties.{post_own, post_names, post_index, post_kept, post_own_next, post_sent, post_back}
use Rattle.wire_hub.proofs.passes.Hub.send.Goals as goal

pub put-requires-clause-own : goal.put-requires-clause-own
put-requires-clause-own g c =
    let p = c.index_mut.result.now in let own = post_own c.args.self.now c.args.pass.now c.args.letter c.place_of-place.result p c.index.result.now c.place_of-place.ensures c.requires.own c.index_mut.ensures.value c.index.ensures in
    ((own.0, own.1), p.sends.1, p.sends.2)

pub put-requires-clause-names : goal.put-requires-clause-names
put-requires-clause-names g c =
    post_names c.args.self.now c.args.pass.now c.args.letter c.place_of-place.result c.index_mut.result.now c.index.result.now c.place_of-place.ensures c.requires.own c.index_mut.ensures.value c.index.ensures c.requires.from

pub put-requires-clause-index : goal.put-requires-clause-index
put-requires-clause-index g c =
    post_index c.args.self.now c.args.pass.now c.args.letter c.place_of-place.result c.index_mut.result.now c.index.result.now c.place_of-place.ensures c.requires.own c.index_mut.ensures.value c.index.ensures c.requires.index

pub invariant_of-pass : goal.invariant_of-pass
invariant_of-pass g c = record {
  own = post_own_next c.args.self.now c.args.pass.now c.args.letter c.place_of-place.result c.index_mut.result.now c.index.result.now c.place_of-place.ensures c.requires.own c.index_mut.ensures.value c.index.ensures c.put.new.port c.in-Ok.ensures.put c.requires.index;
}

pub returns-in-Ok-clause-same : goal.returns-in-Ok-clause-same
returns-in-Ok-clause-same g c =
    let s = c.put.ensures.same in (
      post_kept c.args.self.now c.args.pass.now c.args.letter c.place_of-place.result c.index_mut.result.now c.index.result.now c.place_of-place.ensures c.requires.own c.index_mut.ensures.value c.index.ensures c.put.new.port (λ i. record { web = s.0.0 i; heap = s.0.1 i }) (ap (λ (v : View). v.owner) c.in-Ok.ensures.put),
      refl,
    )

pub returns-in-Ok-clause-sent : goal.returns-in-Ok-clause-sent
returns-in-Ok-clause-sent g c = (
  c.place_of-place.result,
  c.place_of-place.ensures,
  post_sent c.args.self.now c.args.pass.now c.args.letter c.place_of-place.result c.index_mut.result.now c.index.result.now c.place_of-place.ensures c.requires.own c.index_mut.ensures.value c.index.ensures c.put.new.port c.in-Ok.ensures.put,
)

pub returns-in-Err-clause-same : goal.returns-in-Err-clause-same
returns-in-Err-clause-same g c =
    let s = c.put.ensures.same in (
      post_kept c.args.self.now c.args.pass.now c.args.letter c.place_of-place.result c.index_mut.result.now c.index.result.now c.place_of-place.ensures c.requires.own c.index_mut.ensures.value c.index.ensures c.put.new.port (λ i. record { web = s.0.0 i; heap = s.0.1 i }) (ap (λ (v : View). v.owner) c.in-Err.ensures.put.1),
      refl,
    )

pub returns-in-Err-clause-back : goal.returns-in-Err-clause-back
returns-in-Err-clause-back g c = (
  c.in-Err.ensures.put.0,
  post_back c.args.self.now c.args.pass.now c.args.letter c.place_of-place.result c.index_mut.result.now c.index.result.now c.place_of-place.ensures c.requires.own c.index_mut.ensures.value c.index.ensures c.put.new.port c.in-Err.ensures.put.1,
  refl,
)
