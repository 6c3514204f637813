-- One more hold ends, and at last none is left.
use Rattle.std.proofs.Common.{◌<◌, length, sym, subst, ap, ◌∙◌}
use Rattle.group_rules.specs.Member.{Member}
use Rattle.member_parts.specs.declared.parts.MemberParts.{MemberParts}
use Rattle.member_moment.specs.declared.moment.Moment.{Moment}
use Rattle.member_moment.specs.Standing.{Stands}
use Rattle.member_moment.proofs.Ended.{fewer_without, none_yet, one_turn}
use Rattle.member_moment.proofs.moment.Moment.time_out_all.Goals as goal

pub loop-session-init : goal.loop-session-init
loop-session-init c = λ base a st. none_yet base a c.args.self.now st

pub loop-session-smaller : goal.loop-session-smaller
loop-session-smaller c =
    let x : MemberParts = c.loop-session.self.parts in
    let left = ap (λ (p : MemberParts). p.waits) c.in_ok-timed_out.ensures.parts ∙ c.in-Some.ensures'.rest in
    subst (λ hs. length hs < length x.waits) (sym left) (fewer_without x c.in-Some.session c.in-Some.ensures'.session)

pub loop-session-preserved : goal.loop-session-preserved
loop-session-preserved c = λ base a st.
    one_turn base a c.loop-session.self c.timed_out-in-Some.new.self c.timed_out.new.self _ _ c.in-Some.ensures.session c.in-Some.ensures.turn c.in_ok-timed_out.ensures.ended c.in_ok-timed_out.ensures.parts
    (c.loop-session.invariant base a st)

pub returns : goal.returns
returns c = λ base a p st.
    let t = c.loop-session.invariant base a st in
    let x : Moment = c.loop-session.self in
    subst (λ (b : Member). Stands base b (record x { parts = c.timed_out.new.self })) (sym (c.in_default.ensures.turn t.now) ∙ t.rest)
    (subst (λ (y : MemberParts). Stands base t.now (record x { parts = y })) (sym c.in_default.ensures.ends) t.stands)
