use Rattle.std.proofs.Common.{Some, sym, ap, ◌∙◌}
use Rattle.group_rules.specs.Script.{least_worker}
use Rattle.group_world.proofs.Walking.{next_site, no_site}
use Rattle.group_world.proofs.Workers.{worker_here, worker_later}
use Rattle.group_world.proofs.sites.Sites.least_worker.Goals as goal

pub loop-site-preserved : goal.loop-site-preserved
loop-site-preserved c ss h =
    let r = c.loop-site.invariant ss h in
    let k = next_site r.0 c.in-Some.site.now c.in-Some.behind.now c.loop-site.left.now c.in-Some.ensures.cases.0 r.1 in
    let none = worker_later k.0 k.1 (sym (c.in_ok-has_work.ensures k.0 k.3) ∙ c.if-branch.false) in
    (k.1, k.4, sym (ap least_worker k.2 ∙ none) ∙ r.2)

pub returns-then-branch : goal.returns-then-branch
returns-then-branch c ss h =
    let r = c.loop-site.invariant ss h in
    let k = next_site r.0 c.in-Some.site.now c.in-Some.behind.now c.loop-site.left.now c.in-Some.ensures.cases.0 r.1 in
    let here = worker_here k.0 k.1 (sym (c.in_ok-has_work.ensures k.0 k.3) ∙ c.if-branch.true) in
    ap Some k.3.number ∙ sym (sym r.2 ∙ (ap least_worker k.2 ∙ here))

pub returns : goal.returns
returns c ss h =
    let r = c.loop-site.invariant ss h in
    sym (sym r.2 ∙ ap least_worker (no_site r.0 c.loop-site.left.now c.in_default.ensures.cases r.1))
