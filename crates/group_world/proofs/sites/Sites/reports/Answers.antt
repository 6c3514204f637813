use Rattle.std.proofs.Common.{[], ◌∷◌, ◌++◌, append_assoc, append-nil, option_copied, sym, ap, subst, ◌∙◌}
use Rattle.std.specs.Prelude.{map}
use Rattle.report_text.specs.Reporting.{member_report, running}
use Rattle.group_world.specs.Sites.{HasMember}
use Rattle.group_world.proofs.Reported.{reports_none, reports_one}
use Rattle.group_world.proofs.Walking.{next_site, no_site}
use Rattle.group_world.proofs.sites.Sites.reports.Goals as goal

pub loop-site-preserved-in_ok-push : goal.loop-site-preserved-in_ok-push
loop-site-preserved-in_ok-push c ss h =
    let r = c.loop-site.invariant ss h in
    let k = next_site r.0 c.in-Some.site.now c.in-Some.behind.now c.loop-site.left.now c.in-Some.ensures.cases.0 r.1 in
    let one = reports_one k.0 k.1 c.in-Some-member.member.now c.in_ok-report.field-0 (subst (HasMember k.0.running) (ap option_copied c.in-Some-member.is) (c.member.ensures k.0 k.3)) c.in_ok-report.ensures in (
      k.1,
      k.4,
      ap (λ l. l ++ map member_report (running k.1)) c.in_ok-push.ensures.items ∙ (append_assoc c.loop-site.reports.items (c.in_ok-report.field-0 ∷ []) (map member_report (running k.1))
          ∙ (ap (λ l. c.loop-site.reports.items ++ l) (sym (ap (λ l. map member_report (running l)) k.2 ∙ one)) ∙ r.2)),
    )

pub loop-site-preserved : goal.loop-site-preserved
loop-site-preserved c ss h =
    let r = c.loop-site.invariant ss h in
    let k = next_site r.0 c.in-Some.site.now c.in-Some.behind.now c.loop-site.left.now c.in-Some.ensures.cases.0 r.1 in
    let none = reports_none k.0 k.1 (subst (HasMember k.0.running) (ap option_copied c.in_default-member.is) (c.member.ensures k.0 k.3)) in
    (k.1, k.4, ap (λ l. c.loop-site.reports.items ++ l) (sym (ap (λ l. map member_report (running l)) k.2 ∙ none)) ∙ r.2)

pub returns : goal.returns
returns c ss h =
    let r = c.loop-site.invariant ss h in
    c.from_vec.ensures ∙ (sym (append-nil c.loop-site.reports.items) ∙ (ap (λ l. c.loop-site.reports.items ++ map member_report (running l)) (sym (no_site r.0 c.loop-site.left.now c.in_default.ensures.cases r.1)) ∙ r.2))
