use Rattle.std.proofs.Common.{[], ◌∷◌, ◌++◌, append_assoc, append-nil, sym, ap, ◌∙◌}
use Rattle.group_world.specs.Running.{running_incs}
use Rattle.group_world.proofs.Walking.{next_none, next_some, next_site, no_site}
use Rattle.group_world.proofs.sites.Sites.all_running.Goals as goal

pub loop-site-preserved-in_ok-push : goal.loop-site-preserved-in_ok-push
loop-site-preserved-in_ok-push c ss h =
    let r = c.loop-site.invariant ss h in
    let k = next_site r.0 c.in-Some.site.now c.in-Some.behind.now c.loop-site.left.now c.in-Some.ensures.cases.0 r.1 in
    let one = next_some k.0 k.1 c.in-Some-running.inc (sym (c.running.ensures k.0 k.3) ∙ c.in-Some-running.is) in (
      k.1,
      k.4,
      ap (λ l. l ++ running_incs k.1) c.in_ok-push.ensures.items ∙ (append_assoc c.loop-site.incs.items (c.in-Some-running.inc ∷ []) (running_incs k.1)
          ∙ (ap (λ l. c.loop-site.incs.items ++ l) (sym (ap running_incs k.2 ∙ one)) ∙ r.2)),
    )

pub loop-site-preserved : goal.loop-site-preserved
loop-site-preserved c ss h =
    let r = c.loop-site.invariant ss h in
    let k = next_site r.0 c.in-Some.site.now c.in-Some.behind.now c.loop-site.left.now c.in-Some.ensures.cases.0 r.1 in
    let none = next_none k.0 k.1 (sym (c.running.ensures k.0 k.3) ∙ c.in_default-running.is) in
    (k.1, k.4, ap (λ l. c.loop-site.incs.items ++ l) (sym (ap running_incs k.2 ∙ none)) ∙ r.2)

pub returns : goal.returns
returns c ss h =
    let r = c.loop-site.invariant ss h in
    sym (append-nil c.loop-site.incs.items) ∙ (ap (λ l. c.loop-site.incs.items ++ running_incs l) (sym (no_site r.0 c.loop-site.left.now c.in_default.ensures.cases r.1)) ∙ r.2)
