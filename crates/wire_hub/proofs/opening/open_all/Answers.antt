use Rattle.std.proofs.Common.{◌≡◌, ◌+◌, ◌∷◌, [], ◌++◌, map, length, sym, ap, ◌∙◌, subst, length-append}
use Rattle.std.specs.Option.{option_map}
use Rattle.std.proofs.lemmas.List.{map-append}
use Rattle.std.proofs.lemmas.Option.{slice_get-map}
use Rattle.gr_ids.specs.declared.names.Inc.{Inc}
use Rattle.wire_hub.specs.declared.view.View.{View}
use Rattle.wire_hub.specs.Posts.{no_one, taker}
use Rattle.wire_hub.specs.Opening.{AreInOrder, box_queue, take_queue, take_view}
use Rattle.wire_hub.proofs.Openings.{order_next, grows, some_there}
use Rattle.wire_hub.proofs.opening.open_all.Goals as goal

abbrev first : Inc → View
first m = taker m [] [] []

pub loop-at-preserved : goal.loop-at-preserved
loop-at-preserved c =
    let h = c.in_ok-mailbox.ensures in let b = c.in_ok-mailbox.mailbox in let t = c.in_ok-mailbox.take in let boxes = c.loop-at.boxes.items in let takes = c.loop-at.takes.items in
    let p = c.in_ok-push.ensures.items in let q = c.in_ok-push-2.ensures.items in let now = c.loop-at.invariant in
    let tie : take_queue t ≡ box_queue b = λ i. record { web = h.0.0.0 i; heap = h.0.0.1 i } in
    record {
      queues = ap (map take_queue) q ∙ (map-append take_queue takes (t ∷ []) ∙ ((λ i. now.queues i ++ tie i ∷ []) ∙ (sym (map-append box_queue boxes (b ∷ [])) ∙ ap (map box_queue) (sym p))));
      views = ap (map take_view) q
          ∙ grows take_view takes t (map first c.args.members.now) c.loop-at.at _ now.views (slice_get-map first c.args.members.now c.loop-at.at ∙ ap (option_map first) (some_there c.args.members.now c.loop-at.at no_one c.loop-at-test.true)) h.2;
      count = ap length q ∙ (length-append takes (t ∷ []) ∙ ap (λ n. n + 1) now.count);
      order = subst AreInOrder (sym q) (order_next takes t now.order (h.1 ∙ sym now.count));
    }
