-- One more is told; and then all are.
use Rattle.std.proofs.Common.{◌≡◌, length, sym, subst, ap, ◌∙◌, List}
use Rattle.std.proofs.lemmas.List.{map-id}
use Rattle.std.proofs.lemmas.Iterator.Adapters.{YieldsList-from_vec}
use Rattle.std.proofs.lemmas.Iterator.Consumers.{YieldsList-end}
use Rattle.group_rules.specs.Member.{Member}
use Rattle.local_sessions.specs.Acting.{tell}
use Rattle.local_sessions.specs.declared.told.Answered.{Answered}
use Rattle.member_moment.specs.Standing.{RestFor}
use Rattle.member_moment.proofs.Ended.{one_more_told}
use Rattle.member_moment.proofs.moment.Moment.tell_all.Goals as goal

pub loop-told-preserved : goal.loop-told-preserved
loop-told-preserved c = record {
  rest = λ base a r. subst (λ (b : Member). RestFor base b c.tell.new.self) (sym (one_more_told c.loop-told.yielded c.in-Some.told a)) (c.in_ok-tell.ensures.rest base (tell c.loop-told.yielded a) (c.loop-told.invariant.rest base a r));
  tables = c.in_ok-tell.ensures.tables ∙ c.loop-told.invariant.tables;
}

pub returns-clause-rest : goal.returns-clause-rest
returns-clause-rest c = λ base a r.
    let vec = c.into_vec-told-items in
    let all : c.loop-told.yielded ≡ c.args.answers = sym (map-id c.loop-told.yielded) ∙ (YieldsList-end (YieldsList-from_vec c.args.answers (c.into_iter-told-iterator.ensures.into_iter_gives.0 ∙ vec.ensures) (c.into_iter-told-iterator.ensures.into_iter_gives.1 ∙ (vec.result.ok.0 ∙ ap length vec.ensures))) c.loop-told.yielded c.loop-told.told-iterator c.loop-told.yielded_by c.next.result c.next.new.self c.in-None.is c.next.ensures.steps).0 in
    subst (λ (xs : List Answered). RestFor base (tell xs a) c.loop-told.self) all (c.loop-told.invariant.rest base a r)
