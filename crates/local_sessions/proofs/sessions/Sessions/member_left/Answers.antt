-- Those that are left ascend, and so do the answers.
use Rattle.std.proofs.Common.{map, filter, ap, refl, ◌∙◌, arith}
use Rattle.std.proofs.lemmas.List.{with_items_is}
use Rattle.local_sessions.specs.Standing.{ascend}
use Rattle.local_sessions.specs.Others.{answers_ascend, answers_left, left, remains}
use Rattle.local_sessions.proofs.Order.{answers_are_ascending, ascend_filter, ascend_map}
use Rattle.local_sessions.proofs.sessions.Sessions.member_left.Goals as goal

pub invariant_of-self : goal.invariant_of-self
invariant_of-self c =
    ap ascend (with_items_is c.keep_remaining.new.list c.leave_each.new.list (omega (arith, c.leave_each.auto.list, c.deref_mut.ensures.len)) ∙ (c.leave_each.ensures ∙ ap (map left) (c.deref_mut.ensures.value ∙ c.keep_remaining.ensures)))
    ∙ (ascend_map left (filter remains c.self.inside.list.items) (λ x. refl) ∙ ascend_filter remains c.self.inside.list.items c.self.invariant)

pub returns-clause-ascend : goal.returns-clause-ascend
returns-clause-ascend c =
    ap answers_ascend (c.from_vec.ensures ∙ (c.in_ok-answers.ensures ∙ ap (answers_left c.args.taken.now) c.deref.ensures.value))
    ∙ answers_are_ascending c.args.taken.now c.self.inside.list.items c.self.invariant
