-- The hold goes to its place.
use Rattle.std.proofs.Common.{◌≡◌, not, arith, sym, ◌∙◌, ap}
use Rattle.std.specs.Prelude.{nat_lt}
use Rattle.std.proofs.lemmas.List.Sums.{prefix_len-le-length}
use Rattle.consistency_waits.specs.Holding.{Held, ascend, is_held, new_hold}
use Rattle.consistency_waits.proofs.Ascending.{ascend_with}
use Rattle.consistency_waits.proofs.HoldPlaces.{before, hold_inserts}
use Rattle.consistency_waits.proofs.waits.Waits.hold.Goals as goal

pub insert-requires : goal.insert-requires
insert-requires c =
    let at : c.place_of-at.result ≡ before c.args.session c.self.inside.holds.items = c.place_of-at.ensures ∙ ap (λ l. before c.args.session l) c.deref.ensures.value in
    omega (arith, prefix_len-le-length (λ (h : Held). not (nat_lt c.args.session h.session)) c.self.inside.holds.items, c.self.inside.holds.ok.0)

-- a session that isn't held comes to its place
pub invariant_of-self-2 : goal.invariant_of-self-2
invariant_of-self-2 c =
    let at : c.place_of-at.result ≡ before c.args.session c.self.inside.holds.items = c.place_of-at.ensures ∙ ap (λ l. before c.args.session l) c.deref.ensures.value in
    ap ascend (c.in_ok-insert.ensures.items ∙ sym (hold_inserts c.self.inside.holds.items (new_hold c.args.session c.args.conditions c.args.limit) c.place_of-at.result at))
    ∙ ascend_with c.self.inside.holds.items (new_hold c.args.session c.args.conditions c.args.limit) c.self.invariant (ap (λ l. is_held l c.args.session) c.self.view_is ∙ c.requires.free)

pub returns-clause-ok : goal.returns-clause-ok
returns-clause-ok c =
    let at : c.place_of-at.result ≡ before c.args.session c.self.inside.holds.items = c.place_of-at.ensures ∙ ap (λ l. before c.args.session l) c.deref.ensures.value in
    rw (← c.self.view_is) (c.in_ok-insert.ensures.items ∙ sym (hold_inserts c.self.inside.holds.items (new_hold c.args.session c.args.conditions c.args.limit) c.place_of-at.result at))
