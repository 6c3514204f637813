use Rattle.std.proofs.Common.{ap, sym, subst, ◌∙◌}
use Rattle.group_rules.specs.Legal.{IsLegal}
use Rattle.group_legal.specs.Ranges.{HasSmallNumbers}
use Rattle.group_legal.specs.OwnRanges.{MadeInRange}
use Rattle.play_runs.proofs.plays_are_legal.Goals as goal

pub returns : goal.returns
returns c w t r e =
    subst (λ x. IsLegal t x.past) (sym r.is_it)
    (c.every_run_is_legal.ensures r.moves t (ap (λ x. x.setup) (sym r.is_it) ∙ e) (r.setup t e) r.allowed
    (subst (λ x. HasSmallNumbers x.past) r.is_it r.small) (subst (λ x. MadeInRange x.past) r.is_it r.made))
