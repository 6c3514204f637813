-- Each is what is read for it.
use Rattle.std.proofs.Common.{map, sym, ap, ◌∙◌}
use Rattle.std.proofs.lemmas.Result.{IfOk-weaker}
use Rattle.group_rules.specs.Holds.{elected_in}
use Rattle.group_rules.specs.View.{View}
use Rattle.apply_queue.specs.Queues.{shown}
use Rattle.consistency_waits.specs.declared.calling.AtCall.{AtCall}
use Rattle.member_parts.specs.declared.parts.MemberParts.{MemberParts}
use Rattle.member_parts.specs.Committing.{are_done_to}
use Rattle.member_parts.proofs.Conditions.{conditions_are}
use Rattle.member_parts.proofs.parts.MemberParts.conditions.Goals as goal

pub returns : goal.returns
returns c =
    (let x : MemberParts = c.args.self.now in
    let k : AtCall = record { state = c.args.state; last = c.args.last; after = c.in_ok-after.after; elected = c.elected_as.result; online = c.args.online } in
    IfOk-weaker c.conditions_now.result _ _ (λ y e s l et en eo f.
    e ∙ conditions_are s c.args.me c.args.level l c.least_undone-undone.result x k
    (record { at = et; number = en; entry = eo; waits = c.in_ok-after.ensures; primary = c.elected_as.ensures ∙ ap (λ (w : View). elected_in w c.args.me) c.view.ensures })
    (λ p. sym (ap (are_done_to p) (c.as_slice.ensures ∙ (c.in_ok-places.ensures ∙ ap (map shown) c.queue.ensures))) ∙ c.least_undone-undone.ensures p) f) c.conditions_now.ensures)
