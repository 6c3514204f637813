use Rattle.std.proofs.Common.{Bool, List, ℕ, [], ◌∷◌, ◌++◌, if◌then◌else◌, ap, sym, ◌∙◌}
use Rattle.turn_log.proofs.Pushes.{adds}
use Rattle.turn_log.proofs.kept.LogBehaviour.act.Goals as goal

pub returns : goal.returns
returns c h e = let xs : List ℕ = c.args.self.now.items.items in adds h xs _ c.args.act c.is_ok.result e
    (c.push.ensures.items ∙ ap (λ (b : Bool). if b then xs ++ c.args.act ∷ [] else xs) (sym c.is_ok.ensures.value))
