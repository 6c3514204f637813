use Rattle.std.proofs.Common.{◌≡◌, List, map, sym, ◌∙◌, subst}
use Rattle.gr_ids.specs.declared.names.Inc.{Inc}
use Rattle.wire_hub.specs.Opening.{box_queue, take_view}
use Rattle.wire_hub.proofs.Openings.{tie_queues, tie_order, taker_of, takes_own, takes_empty, takes_owned}
use Rattle.wire_hub.proofs.passes.Hub.new.Goals as goal

pub returns-clause-untaken : goal.returns-clause-untaken
returns-clause-untaken c =
    let b = c.in_ok-boxes.ensures in let t = c.in_ok-sends.ensures.takes in
    takes_empty (map box_queue c.in_ok-boxes.boxes.items) c.args.members.now c.send_passes.new.takes.items (tie_queues _ _ t.0 ∙ b.queues) t.1 (tie_order _ _ t.0 b.takes.1)

pub returns-clause-takes : goal.returns-clause-takes
returns-clause-takes c =
    let b = c.in_ok-boxes.ensures in let t = c.in_ok-sends.ensures.takes in let takes = c.send_passes.new.takes.items in let copy = c.in_ok-members.members.items in
    let same = c.in_ok-members.ensures.items_if_clones_equal (λ x y e. e) in let queues = tie_queues _ _ t.0 ∙ b.queues in let order = tie_order _ _ t.0 b.takes.1 in (
      takes_own (map box_queue c.in_ok-boxes.boxes.items) copy takes queues (subst (λ (xs : List Inc). map take_view takes ≡ map (taker_of xs) xs) (sym same) t.1) order,
      takes_owned (map box_queue c.in_ok-boxes.boxes.items) c.args.members.now takes queues t.1 order,
    )
