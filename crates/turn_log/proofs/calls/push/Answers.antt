use Rattle.std.proofs.Common.{Bool, List, ℕ, [], ◌∷◌, ◌++◌, ap, sym, ◌∙◌, length, append_assoc}
use Rattle.turn_log.proofs.Pushes.{last_is}
use Rattle.turn_log.proofs.calls.push.Goals as goal

pub returns-clause-seen : goal.returns-clause-seen
returns-clause-seen g c = let p = c.enter-turn.ensures.seen in let f = c.leave.ensures.entry in
    (p.0 ++ f.0 ∷ [], sym (append_assoc _ p.0 (f.0 ∷ [])) ∙ (ap (λ w. w ++ f.0 ∷ []) p.1 ∙ sym f.2))

pub returns-clause-told : goal.returns-clause-told
returns-clause-told g c = let f = c.leave.ensures.entry in let h : List (ℕ × Bool) = c.enter-turn.result.place.seat.me.0.seen in
    let before = c.enter-turn.ensures.stands in let after = c.act-done.ensures h (ap (λ s. s.items.items) c.state.ensures.value ∙ before) in (
      length h,
      c.leave.ensures.mine ∙ ap (λ l. l ++ length h ∷ []) c.enter-turn.ensures.same.1,
      last_is h _ f.0 c.args.x c.act-done.result _ f.1 after f.2,
    )
