-- One more begins, and then all have.
use Rattle.std.proofs.Common.{◌≡◌, ◌+◌, List, [], drop, sym, subst, ap, ◌∙◌}
use Rattle.std.proofs.lemmas.List.{at_drop_all}
use Rattle.consistency_waits.specs.declared.held.Released.{Released}
use Rattle.group_rules.specs.Member.{Member, for_each}
use Rattle.group_rules.specs.Points.{begin_all}
use Rattle.member_parts.specs.declared.parts.MemberParts.{MemberParts}
use Rattle.member_parts.specs.Standing.{StandsFor}
use Rattle.member_truth.proofs.Grown.{begins_all}
use Rattle.member_moment.specs.Aside.{ButParts}
use Rattle.member_moment.specs.Beginning.{begins_now}
use Rattle.member_moment.proofs.Aside.{but_parts, still_its, whole}
use Rattle.member_moment.proofs.Begun.{AreHeld, Beginning, are_held, by_now, next_of, one_begins}
use Rattle.member_moment.proofs.moment.Moment.begin_all.Goals as goal

pub loop-one-preserved : goal.loop-one-preserved
loop-one-preserved c = record {
  begun = λ base a h b.
      let rs : List Released = c.as_slice-one-items.result.now in
      one_begins base a rs (drop (c.loop-one.one-index + 1) rs) c.one-item.result c.loop-one.self c.begun.new.self c.in_ok-begun.ensures.begun
      (subst (λ (qs : List Released). Beginning base a rs qs c.loop-one.self) (next_of rs c.loop-one.one-index c.one-item.result c.loop-one-test.true c.one-item.is) (c.loop-one.invariant.begun base a h b));
  parts = c.in_ok-begun.ensures.parts ∙ c.loop-one.invariant.parts;
}

pub returns : goal.returns
returns c = λ base a p st.
    let rs : List Released = c.as_slice-one-items.result.now in
    let same : begin_all a ≡ for_each begins_now rs a = c.in_ok-released.ensures.begun a st.rest.parts ∙ (by_now c.in_ok-released.released a ∙ ap (λ (qs : List Released). for_each begins_now qs a) (sym c.as_slice-one-items.ensures)) in
    let held : AreHeld rs a = are_held c.args.self.now.parts rs a st.rest.parts.waits (same ∙ sym (by_now rs a)) in
    let done = c.loop-one.invariant.begun base a held (but_parts base a c.args.self.now c.release.new.self st) in
    let none : drop c.loop-one.one-index rs ≡ [] = at_drop_all (λ qs. qs) rs c.loop-one.one-index c.loop-one-test.false in
    let end : done.now ≡ begin_all a = sym (ap (λ (qs : List Released). for_each begins_now qs done.now) none) ∙ (done.rest ∙ sym same) in
    let parts : StandsFor a.setup a.me.inc (begin_all a).life c.loop-one.self.parts = subst (λ (x : MemberParts). StandsFor a.setup a.me.inc (begin_all a).life x) (sym c.loop-one.invariant.parts) (c.in_ok-released.ensures.stands a st.rest.parts) in
    whole base (begin_all a) c.loop-one.self (still_its (begins_all a) parts) (subst (λ (b : Member). ButParts base b c.loop-one.self) end done.stands)
