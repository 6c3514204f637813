use Rattle.std.proofs.Common.{Some, sym, ap, ◌∙◌}
use Rattle.member_parts.specs.declared.parts.MemberParts.{MemberParts}
use Rattle.member_looks.proofs.Works.{none_there, one_there}
use Rattle.member_looks.proofs.working.work_at.Goals as goal

pub returns-in_ok-done-in-Some : goal.returns-in_ok-done-in-Some
returns-in_ok-done-in-Some c = λ base a st.
    let is_queue = c.queue.ensures ∙ ap (λ (p : MemberParts). p.remotes.queue) c.parts.ensures in
    let there = one_there base a c.args.moment.now st c.queue.result.now c.args.place _ is_queue c.in-Some.ensures.1 in
    (c.in_ok-done-in-Some.ensures.0 ∙ there.0, there.1 ∙ ap Some (sym c.in_ok-done-in-Some.ensures.1))

pub returns-in-None : goal.returns-in-None
returns-in-None c = λ base a st. none_there base a c.args.moment.now st c.queue.result.now c.args.place (c.queue.ensures ∙ ap (λ (p : MemberParts). p.remotes.queue) c.parts.ensures) c.in-None.ensures
