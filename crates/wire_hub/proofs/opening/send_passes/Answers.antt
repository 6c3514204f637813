use Rattle.std.proofs.Common.{List, map, take, get_or, sym, ap, ◌∙◌, subst}
use Rattle.std.specs.List.{All}
use Rattle.std.proofs.lemmas.List.{take_more}
use Rattle.std.proofs.lemmas.List.Elements.{All-push}
use Rattle.gr_ids.specs.declared.names.Inc.{Inc}
use Rattle.wire_hub.specs.Posts.{no_one, making}
use Rattle.wire_hub.specs.Passes.{send_name}
use Rattle.wire_hub.specs.Opening.{box_queue, IsNew}
use Rattle.wire_hub.proofs.Openings.{some_there, map_twice, grows, tie_queues, is_new, taker_of, all_new, ports_owned, ports_empty}
use Rattle.wire_hub.proofs.opening.send_passes.Goals as goal

pub send_pass-requires-clause-queues : goal.send_pass-requires-clause-queues
send_pass-requires-clause-queues c = tie_queues _ _ c.loop-name.invariant.ties ∙ c.requires.queues

pub send_pass-requires-clause-new : goal.send_pass-requires-clause-new
send_pass-requires-clause-new c = all_new _ (take c.loop-name.name-index c.args.members.now) c.args.members.now _ c.loop-name.invariant.views (is_new 0 c.args.members.now c.loop-name.name-index no_one c.requires.members c.loop-name-test.true)

pub loop-name-preserved : goal.loop-name-preserved
loop-name-preserved c =
    let members = c.args.members.now in let k = c.loop-name.name-index in let name = get_or members k no_one in let now = c.loop-name.invariant in let s = c.in_ok-send_pass.field-0 in
    let t = c.in_ok-send_pass.ensures.takes in let p = c.in_ok-send_pass.ensures.pass in let q = c.in_ok-push.ensures.items in
    record {
      ties = t.0 ∙ now.ties;
      views = t.1 ∙ (ap (map (making name)) now.views ∙ (map_twice (taker_of (take k members)) (making name) members ∙ ap (λ (xs : List Inc). map (taker_of xs) members) (sym (take_more members k no_one c.loop-name-test.true))));
      names = ap (map send_name) q ∙ grows send_name c.loop-name.sends.items s members k name now.names (some_there members k no_one c.loop-name-test.true) p.0;
      new = subst (All (IsNew (map box_queue c.args.boxes.now.items) members)) (sym q) (All-push (IsNew (map box_queue c.args.boxes.now.items) members) c.loop-name.sends.items s now.new
          (p.1, p.2, ports_owned s.ports.items _ name (take k members) members p.3 now.views, ports_empty s.ports.items _ name (take k members) members p.3 now.views));
    }
