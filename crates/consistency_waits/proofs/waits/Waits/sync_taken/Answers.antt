-- The sessions are the same.
use Rattle.std.proofs.Common.{◌∙◌, ap, arith, map}
use Rattle.std.proofs.lemmas.List.{with_items_is}
use Rattle.consistency_waits.specs.Holding.{ascend, placed}
use Rattle.consistency_waits.proofs.Ascending.{ascend_map}
use Rattle.consistency_waits.proofs.Histories.{keeps_session}
use Rattle.consistency_waits.proofs.waits.Waits.sync_taken.Goals as goal

pub invariant_of-self : goal.invariant_of-self
invariant_of-self c =
    ap ascend (with_items_is c.self.inside.holds c.place_sync.new.holds (omega (arith, c.place_sync.auto.holds, c.deref_mut.ensures.len)))
    ∙ (ap ascend (c.place_sync.ensures ∙ ap (λ l. map (placed c.args.sync c.args.place) l) c.deref_mut.ensures.value) ∙ (ascend_map (placed c.args.sync c.args.place) c.self.inside.holds.items (keeps_session c.args.sync c.args.place) ∙ c.self.invariant))
