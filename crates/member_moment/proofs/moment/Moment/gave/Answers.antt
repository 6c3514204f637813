use Rattle.std.proofs.Common.{refl}
use Rattle.group_rules.specs.Events.{Gave}
use Rattle.member_moment.proofs.Pushed.{does_say}
use Rattle.member_moment.proofs.moment.Moment.gave.Goals as goal

pub returns-clause-does : goal.returns-clause-does
returns-clause-does c = does_say (Gave _ _) _ _ refl c.in_ok-push.ensures.items (λ a. record { said = record { parts = refl; own = refl; joining = refl; range = refl; ranged = tt; committed = refl }; sessions = refl; tables = refl; made = refl })
