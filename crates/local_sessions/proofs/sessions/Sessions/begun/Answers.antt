-- A change of one session leaves the order.
use Rattle.std.proofs.Common.{ap, refl, ◌∙◌, arith}
use Rattle.std.proofs.lemmas.List.{with_items_is}
use Rattle.local_sessions.specs.Standing.{ascend, begins, changed_at}
use Rattle.local_sessions.proofs.Order.{ascend_changed}
use Rattle.local_sessions.proofs.sessions.Sessions.begun.Goals as goal

pub invariant_of-self : goal.invariant_of-self
invariant_of-self c =
    ap ascend (with_items_is c.self.inside.list c.set_begun.new.list (omega (arith, c.set_begun.auto.list, c.deref_mut.ensures.len)) ∙ (c.set_begun.ensures ∙ ap (changed_at c.args.session (begins c.in_ok-set.set)) c.deref_mut.ensures.value))
    ∙ (ascend_changed c.args.session (begins c.in_ok-set.set) c.self.inside.list.items (λ x. refl) ∙ c.self.invariant)
