-- What is left ascends; the least one is handed out.
use Rattle.std.proofs.Common.{◌≡◌, ◌∙◌, Some, None, List, ap, not, refl, sym}
use Rattle.std.specs.Prelude.{◌==◌}
use Rattle.std.specs.List.{find}
use Rattle.std.specs.Option.{option_map}
use Rattle.consistency_waits.specs.Following.{all_time_out}
use Rattle.consistency_waits.specs.Holding.{Held, ascend, is_over}
use Rattle.consistency_waits.proofs.Ascending.{ascend_filter}
use Rattle.consistency_waits.proofs.Turns.{turn_is}
use Rattle.consistency_waits.proofs.waits.Waits.timed_out.Goals as goal

pub invariant_of-self : goal.invariant_of-self
invariant_of-self c = ap ascend c.drop_session.ensures ∙ ascend_filter (λ (h : Held). not (h.session == c.in_ok-over.over.0)) c.self.inside.holds.items c.self.invariant

pub returns-in_err-over-clause-turn : goal.returns-in_err-over-clause-turn
returns-in_err-over-clause-turn c =
    let same : c.deref.result.now ≡ c.args.self.now = c.deref.ensures.value ∙ c.self.view_is in
    rw c.from_residual.ensures
    (turn_is None c.args.self.now c.args.self.now (c.in_err-over.ensures.session ∙ ap (λ (hs : List Held). option_map (λ (h : Held). h.session) (find is_over hs)) same)
    (c.in_err-over.ensures.limit ∙ ap (λ (hs : List Held). option_map (λ (h : Held). h.limit) (find is_over hs)) same) refl (ap ascend (sym c.self.view_is) ∙ c.self.invariant))

pub returns-clause-turn : goal.returns-clause-turn
returns-clause-turn c = λ a.
    (let held : List Held = c.self.inside.holds.items in
    ap (λ (hs : List Held). all_time_out hs a) (sym c.self.view_is)
    ∙ turn_is (Some c.in_ok-over.over) held c.drop_session.new.holds.items (c.in_ok-over.ensures.session ∙ ap (λ (hs : List Held). option_map (λ (h : Held). h.session) (find is_over hs)) c.deref.ensures.value)
    (c.in_ok-over.ensures.limit ∙ ap (λ (hs : List Held). option_map (λ (h : Held). h.limit) (find is_over hs)) c.deref.ensures.value) c.drop_session.ensures c.self.invariant a)
