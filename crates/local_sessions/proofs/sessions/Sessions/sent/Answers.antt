-- A change of one session leaves the order.
use Rattle.std.proofs.Common.{ap, refl, ◌∙◌, arith}
use Rattle.std.proofs.lemmas.List.{with_items_is}
use Rattle.local_sessions.specs.Standing.{Asking, ascend, at_stage, changed_at}
use Rattle.local_sessions.proofs.Order.{ascend_changed}
use Rattle.local_sessions.proofs.sessions.Sessions.sent.Goals as goal

pub invariant_of-self : goal.invariant_of-self
invariant_of-self c =
    ap ascend (with_items_is c.self.inside.list c.set_stage.new.list (omega (arith, c.set_stage.auto.list, c.deref_mut.ensures.len)) ∙ (c.set_stage.ensures ∙ ap (changed_at c.args.session (at_stage (Asking c.args.id))) c.deref_mut.ensures.value))
    ∙ (ascend_changed c.args.session (at_stage (Asking c.args.id)) c.self.inside.list.items (λ x. refl) ∙ c.self.invariant)
