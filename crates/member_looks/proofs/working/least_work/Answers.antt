use Rattle.std.proofs.Common.{sym, ap, ◌∙◌}
use Rattle.std.proofs.lemmas.Result.{IfOk-weaker}
use Rattle.member_parts.specs.declared.parts.MemberParts.{MemberParts}
use Rattle.member_looks.proofs.Works.{first_place, least_is, least_none, least_some}
use Rattle.member_looks.proofs.working.least_work.Goals as goal

pub returns-in-Some : goal.returns-in-Some
returns-in-Some c = IfOk-weaker c.work_at.result _ _ (λ w d base a st.
    let is_queue = c.queue.ensures ∙ ap (λ (p : MemberParts). p.remotes.queue) c.parts.ensures in
    let first = ap first_place (c.as_slice.ensures ∙ c.in_ok-places.ensures) ∙ least_is base a c.args.moment.now st c.queue.result.now is_queue in
    least_some a c.in-Some.place w (sym first ∙ (sym c.first_undone.ensures ∙ c.in-Some.is)) (d base a st)) c.work_at.ensures

pub returns : goal.returns
returns c = λ base a st.
    let is_queue = c.queue.ensures ∙ ap (λ (p : MemberParts). p.remotes.queue) c.parts.ensures in
    let first = ap first_place (c.as_slice.ensures ∙ c.in_ok-places.ensures) ∙ least_is base a c.args.moment.now st c.queue.result.now is_queue in
    least_none a (sym first ∙ (sym c.first_undone.ensures ∙ c.in-None.is))
