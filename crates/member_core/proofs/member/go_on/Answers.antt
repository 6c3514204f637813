-- What is done is the step, and all that it committed is noted.
use Rattle.std.proofs.Common.{◌∙◌, ap, map, subst, sym}
use Rattle.group_rules.specs.Histories.{arranged}
use Rattle.group_rules.specs.Steps.{step}
use Rattle.member_messages.specs.Sending.{spelt}
use Rattle.member_moment.specs.Doing.{IsKept}
use Rattle.member_moment.specs.Standing.{Stands}
use Rattle.member_core.specs.Standing.{cleared, event_of}
use Rattle.member_core.proofs.Acted.{goes_on, step_is}
use Rattle.member_core.proofs.member.go_on.Goals as goal

pub returns-clause-ok : goal.returns-clause-ok
returns-clause-ok c = λ a k m server.
    (let e = event_of c.args.event in
    let begun = c.begin_step.ensures a.life (cleared a) m in
    let taken = c.in_ok-take.ensures a.life (cleared a) (subst IsKept (sym (step_is e a)) k) begun in
    let st = subst (λ b. Stands a.life b c.take.new.moment) (step_is e a) taken in
    let end = c.end_step-committed.ensures in
    let left = end.left a.life (step e a) st in
    goes_on e a _ _ _ _ _ _ st (end.stands a.life (step e a) st) left.0 (c.in_ok-sent.ensures ∙ ap (λ ms. map spelt (arranged ms)) left.1) (end.committed a.life (step e a) st)
    c.in_ok-note.ensures.ok (c.steps_are_plain.ensures.stored e a) server)
