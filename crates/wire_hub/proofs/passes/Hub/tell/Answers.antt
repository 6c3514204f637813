use Rattle.std.proofs.Common.{◌<◌, length, slice_get, sym, refl, ap, ◌∙◌, ◌∷◌, [], ◌++◌}
use Rattle.wire_hub.specs.declared.passes.Mailbox.{Mailbox}
use Rattle.wire_hub.specs.declared.view.Told.{Told}
use Rattle.wire_hub.specs.declared.view.View.{View}
use Rattle.wire_hub.specs.Passes.{queue_of}
use Rattle.wire_hub.proofs.Maps.{map_kept, map_within}
use Rattle.wire_hub.proofs.Ties.{letters_of, port_own, port_sent, port_kept, take_kept}
use Rattle.wire_hub.proofs.passes.Hub.tell.Goals as goal

here : (c : goal.After-send-2-1) → c.args.take.now.at < length c.args.self.now.boxes.items
here c = map_within (λ (b : Mailbox). b.line) c.args.self.now.boxes.items c.args.take.now.at _ c.requires.own.1.0

there : (c : goal.After-send-2-1) → c.args.take.now.at < length c.args.send.now.ports.items
there c = map_within queue_of c.args.send.now.ports.items c.args.take.now.at _ (ap (λ l. slice_get l c.args.take.now.at) c.requires.own.0.0 ∙ c.requires.own.1.0)

pub returns-clause-told : goal.returns-clause-told
returns-clause-told c =
    let p = c.index_mut.result.now in let is = c.index_mut.ensures.value in
    let own = port_own c.args.send.now c.args.take.now.at p (there c) is in let letters = port_sent c.args.send.now c.args.take.now.at p (there c) is in
    ap (λ (v : View). v.told) c.tell.ensures.taker.2 ∙ ap (λ (t : Told). c.args.take.now.seat.me.view.client.told ++ t ∷ []) (λ i. record { name = own.0 i; letters = sym letters i })

pub returns-clause-sender : goal.returns-clause-sender
returns-clause-sender c =
    let p = c.index_mut.result.now in let is = c.index_mut.ensures.value in let q = c.tell.new.port in let at = c.args.take.now.at in let s = c.tell.ensures.sender in (
      port_kept c.args.send.now at p (there c) is c.args.self.now c.index.result.now (here c) c.index.ensures c.requires.own.0 q (λ i. record { web = s.0.0.0 i; heap = s.0.0.1 i }) (ap (λ (v : View). v.owner) s.1),
      refl,
      refl,
      map_kept letters_of c.args.send.now.ports.items at p q is (ap (λ (v : View). v.letters) s.1),
    )

pub returns-clause-taker : goal.returns-clause-taker
returns-clause-taker c =
    let t = c.tell.ensures.taker in (
      take_kept c.args.self.now c.args.take.now c.index.result.now (here c) c.index.ensures c.requires.own.1 c.tell.new.take t.1 (λ i. record { web = t.0.0.0 i; heap = t.0.0.1 i }) (ap (λ (v : View). v.owner) t.2) (ap (λ (v : View). v.senders) t.2),
      t.1,
      ap (λ (v : View). v.letters) t.2,
    )
