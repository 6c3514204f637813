use Rattle.std.proofs.Common.{◌≡◌, false, true≢false, List, sym, ap, ◌∙◌}
use Rattle.std.proofs.lemmas.List.Folds.{list_any_more}
use Rattle.std.proofs.lemmas.List.{take_all}
use Rattle.gr_ids.specs.declared.names.Inc.{Inc}
use Rattle.gr_ids.specs.Names.{inc_eq, has_inc}
use Rattle.wire_hub.specs.Posts.{no_one}
use Rattle.wire_hub.proofs.Lists.{neither}
use Rattle.wire_hub.proofs.passes.Hub.place_of.Goals as goal

pub loop-place-preserved : goal.loop-place-preserved
loop-place-preserved c =
    list_any_more (λ (x : Inc). inc_eq x c.args.to) c.deref-member-items.result.now c.loop-place.place no_one c.loop-place-test.true
    ∙ neither _ _ c.loop-place.invariant (sym c.eq.ensures ∙ c.if-eq.false)

pub unreachable-requires : goal.unreachable-requires
unreachable-requires c =
    let xs = c.deref-member-items.result.now in
    let all : has_inc xs c.args.to ≡ false = ap (λ (l : List Inc). has_inc l c.args.to) (sym (take_all c.loop-place.place xs c.loop-place-test.false)) ∙ c.loop-place.invariant in
    true≢false (sym c.requires ∙ (ap (λ (l : List Inc). has_inc l c.args.to) (sym c.deref-member-items.ensures.value) ∙ all))
