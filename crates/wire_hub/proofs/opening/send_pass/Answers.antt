use Rattle.std.proofs.Common.{◌<◌, length, map, ap, ◌∙◌, arith}
use Rattle.crossbeam_queue.specs.SegTies.{SegId}
use Rattle.std.specs.declared.alloc.Global.{Global}
use Rattle.wire_hub.specs.Passes.{queue_of}
use Rattle.wire_hub.specs.Opening.{port_view}
use Rattle.wire_hub.proofs.Openings.{port_tie, port_fresh, ties_next, views_next, queues_next, ports_next, new_own}
use Rattle.wire_hub.proofs.opening.send_pass.Goals as goal

pub invariant_of-result : goal.invariant_of-result
invariant_of-result c = record { own = new_own c.loop-place.ports.items c.args.name c.loop-place.place _ c.loop-place.invariant.ports }

pub port-requires : goal.port-requires
port-requires c =
    let here : c.loop-place.place < length c.args.boxes.now.items = omega arith in let now = c.loop-place.invariant in let t = c.index_mut.result.now in let b = c.index.result.now in
    let tie = port_tie c.args.takes.now.items c.loop-place.takes.items c.args.boxes.now.items c.loop-place.place t b c.args.name c.requires.queues now.ties here c.index_mut.ensures.value c.index.ensures now.views in (
      ((ap (λ (s : SegId Global). s.web) tie, ap (λ (s : SegId Global). s.heap) tie), t.takes.1, t.takes.2),
      port_fresh c.args.takes.now.items c.loop-place.takes.items c.args.boxes.now.items c.loop-place.place t b c.args.name c.requires.queues now.ties here c.index_mut.ensures.value c.index.ensures now.views c.requires.new,
    )

pub loop-place-preserved : goal.loop-place-preserved
loop-place-preserved c =
    let here : c.loop-place.place < length c.args.boxes.now.items = omega arith in let now = c.loop-place.invariant in let t = c.index_mut.result.now in let b = c.index.result.now in let w = c.port.new.take in
    let q = c.in_ok-push.ensures.items in let r = c.port.ensures in
    record {
      ties = ties_next c.args.takes.now.items c.loop-place.takes.items c.args.boxes.now.items c.loop-place.place t b c.args.name c.requires.queues now.ties here c.index_mut.ensures.value c.index.ensures now.views w
          (λ i. record { web = r.taker.0.0.0 i; heap = r.taker.0.0.1 i }) r.taker.1;
      views = views_next c.args.takes.now.items c.loop-place.takes.items c.args.boxes.now.items c.loop-place.place t b c.args.name c.requires.queues now.ties here c.index_mut.ensures.value c.index.ensures now.views w r.taker.2;
      queues = ap (map queue_of) q
          ∙ queues_next c.args.takes.now.items c.loop-place.takes.items c.args.boxes.now.items c.loop-place.place t b c.args.name c.requires.queues now.ties here c.index_mut.ensures.value c.index.ensures now.views c.loop-place.ports.items c.port.result now.queues
          (λ i. record { web = r.sender.0.0.0 i; heap = r.sender.0.0.1 i });
      ports = ap (map port_view) q
          ∙ ports_next c.args.takes.now.items c.loop-place.takes.items c.args.boxes.now.items c.loop-place.place t b c.args.name c.requires.queues now.ties here c.index_mut.ensures.value c.index.ensures now.views c.loop-place.ports.items c.port.result now.ports r.sender.1;
    }
