use Rattle.std.proofs.Common.{refl, sym, ap, ◌∙◌, ◌++◌, ◌∷◌, []}
use Rattle.group_rules.specs.Events.{Skips}
use Rattle.group_rules.specs.declared.marks.Mark.TheVariants.{Skipped}
use Rattle.member_moment.proofs.Pushed.{does_say}
use Rattle.member_moment.proofs.moment.Moment.skip.Goals as goal

pub returns : goal.returns
returns c = λ v e. does_say (Skips _ v) _ _ refl (c.in_ok-push.ensures.items ∙ ap (λ i. c.args.self.now.marks.items ++ Skipped c.args.slot i ∷ []) (sym e)) (λ a. record { said = record { parts = refl; own = refl; joining = refl; range = refl; ranged = tt; committed = refl }; sessions = refl; tables = refl; made = refl })
