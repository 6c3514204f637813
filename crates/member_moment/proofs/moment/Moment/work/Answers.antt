-- The place is done in the parts and the tables, or the result is refused.
use Rattle.std.proofs.Common.{◌≡◌, Some, refl, sym, subst, ◌∙◌}
use Rattle.std.proofs.lemmas.Result.{on_ok_weaker}
use Rattle.group_rules.specs.Events.{Done, Replied}
use Rattle.group_rules.specs.Member.{Member, push}
use Rattle.group_rules.specs.Steps.{work}
use Rattle.member_joining.proofs.Joined.{passes as joining_passes}
use Rattle.member_parts.specs.Committing.{IsAccepted}
use Rattle.member_parts.specs.Standing.{StandsFor}
use Rattle.member_ranges.proofs.Passed.{done_in_range}
use Rattle.member_moment.specs.Standing.{Stands}
use Rattle.member_moment.specs.declared.moment.Moment.{Moment}
use Rattle.member_moment.proofs.Aside.{aside_of, pushed, rest_of}
use Rattle.member_moment.proofs.Doing.{does_same}
use Rattle.member_moment.proofs.Worked.{ok_since, rises, something_certified}
use Rattle.member_moment.proofs.moment.Moment.work.Goals as goal

pub returns-in_ok-push-in-Ok : goal.returns-in_ok-push-in-Ok
returns-in_ok-push-in-Ok c = λ base a p st.
    let x : Moment = c.args.self.now in
    let y : Moment = record x { parts = c.done-in-Ok.new.self; tables = c.done.new.self; marks = c.push.new.self } in
    let at = c.args.done.place in
    let k : IsAccepted a.me.inc a.life c.args.done c.in-Ok.gtid = c.in-Ok.ensures.accepted a st.rest.parts in
    let is : work at (Some c.args.done.body) a ≡ push (Done at) a = ok_since c.done-in-Ok.result c.done-in-Ok.ensures.sure c.in-Ok.ensures.sure c.done-in-Ok.ensures.taken a st.rest.parts in
    let parts : StandsFor a.setup a.me.inc (push (Done at) a).life y.parts = ok_since c.done-in-Ok.result c.done-in-Ok.ensures.sure c.in-Ok.ensures.sure c.done-in-Ok.ensures.ok a.setup a.me.inc a.life st.rest.parts in
    subst (λ (b : Member). Stands base b y) (sym is) (record {
      rest = rest_of base (push (Done at) a) y
          (pushed base a x y refl (Done at) c.in_ok-push-in-Ok.ensures.items (record { own = refl; ranged = tt; committed = refl })
          (done_in_range at a (something_certified a.life a.me.inc at k.cert k.queued) st.rest.range) (joining_passes a.life (Done at) x.joining refl st.rest.joining) (aside_of base a x st.rest))
          parts;
      tables = c.in_ok-done-in-Ok.ensures.done a k.cert k.queued k.undone (rises _ st.rest.parts.orderly.rising) k.gtid k.items st.tables;
    })

pub returns-in-Err : goal.returns-in-Err
returns-in-Err c =
    on_ok_weaker c.reply.result
    (does_same (work c.args.done.place (Some c.args.done.body)) (push (Replied c.refused.result)) c.args.self.now c.reply.new.self (λ base a st. c.in-Err.ensures.refused a st.rest.parts ∙ c.refused.ensures.told a))
    c.reply.ensures
