-- The sessions are the same.
use Rattle.std.proofs.Common.{◌∙◌, ap, arith, map, refl}
use Rattle.std.proofs.lemmas.List.{with_items_is}
use Rattle.consistency_waits.specs.Holding.{ascend, ticked}
use Rattle.consistency_waits.proofs.Ascending.{ascend_map}
use Rattle.consistency_waits.proofs.waits.Waits.tick.Goals as goal

pub invariant_of-self : goal.invariant_of-self
invariant_of-self c =
    ap ascend (with_items_is c.self.inside.holds c.tick_each.new.holds (omega (arith, c.tick_each.auto.holds, c.deref_mut.ensures.len)))
    ∙ (ap ascend (c.tick_each.ensures ∙ ap (λ l. map ticked l) c.deref_mut.ensures.value) ∙ (ascend_map ticked c.self.inside.holds.items (λ h. refl) ∙ c.self.invariant))
