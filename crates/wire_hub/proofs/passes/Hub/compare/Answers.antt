use Rattle.std.proofs.Common.{slice_get, sym, refl, ap, ◌∙◌, subst, List}
use mathlib.Core.List.{IsPrefix}
use Rattle.wire_hub.specs.declared.letter.Letter.{Letter}
use Rattle.wire_hub.specs.declared.passes.Mailbox.{Mailbox}
use Rattle.wire_hub.specs.declared.view.View.{View}
use Rattle.wire_hub.specs.Letters.{of}
use Rattle.wire_hub.specs.Passes.{queue_of, got}
use Rattle.wire_hub.proofs.Maps.{map_kept, map_within}
use Rattle.wire_hub.proofs.Ties.{letters_of, port_sent, port_kept, take_kept}
use Rattle.wire_hub.proofs.passes.Hub.compare.Goals as goal

pub returns-clause-sender : goal.returns-clause-sender
returns-clause-sender g c =
    let at = c.args.take.now.at in let here = map_within (λ (b : Mailbox). b.line) c.args.self.now.boxes.items at _ c.requires.own.1.0 in
    let there = map_within queue_of c.args.send.now.ports.items at _ (ap (λ l. slice_get l at) c.requires.own.0.0 ∙ c.requires.own.1.0) in
    let p = c.index_mut.result.now in let is = c.index_mut.ensures.value in let q = c.compare.new.port in let s = c.compare.ensures.sender in (
      port_kept c.args.send.now at p there is c.args.self.now c.index.result.now here c.index.ensures c.requires.own.0 q (λ i. record { web = s.0.0.0 i; heap = s.0.0.1 i }) (ap (λ (v : View). v.owner) s.1),
      refl,
      map_kept letters_of c.args.send.now.ports.items at p q is (ap (λ (v : View). v.letters) s.1),
    )

pub returns-clause-taker : goal.returns-clause-taker
returns-clause-taker g c =
    let at = c.args.take.now.at in let here = map_within (λ (b : Mailbox). b.line) c.args.self.now.boxes.items at _ c.requires.own.1.0 in let t = c.compare.ensures.taker in (
      take_kept c.args.self.now c.args.take.now c.index.result.now here c.index.ensures c.requires.own.1 c.compare.new.take t.1 (λ i. record { web = t.0.0.0 i; heap = t.0.0.1 i }) (ap (λ (v : View). v.owner) t.2) (ap (λ (v : View). v.senders) t.2),
      t.1,
      ap (λ (v : View). v.letters) t.2,
    )

pub returns-clause-begins : goal.returns-clause-begins
returns-clause-begins g c =
    let at = c.args.take.now.at in let there = map_within queue_of c.args.send.now.ports.items at _ (ap (λ l. slice_get l at) c.requires.own.0.0 ∙ c.requires.own.1.0) in
    subst (λ (l : List Letter). IsPrefix (of c.args.send.now.name (got c.args.take.now)) l) (sym (port_sent c.args.send.now at c.index_mut.result.now there c.index_mut.ensures.value)) c.compare.ensures.begins
