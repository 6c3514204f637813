use Rattle.std.proofs.Common.{refl}
use Rattle.group_rules.specs.Events.{Replied}
use Rattle.member_moment.proofs.Pushed.{does_say}
use Rattle.member_moment.proofs.Replies.{is_no_joining}
use Rattle.member_moment.proofs.moment.Moment.reply.Goals as goal

pub returns : goal.returns
returns c = does_say (Replied _) _ _ refl c.in_ok-push.ensures.items (λ a. record { said = record { parts = refl; own = refl; joining = is_no_joining _ c.requires; range = refl; ranged = tt; committed = refl }; sessions = refl; tables = refl; made = refl })
