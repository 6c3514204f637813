-- One message more.
use Rattle.std.proofs.Common.{[], ◌∷◌, ◌++◌, refl, ap, ◌∙◌}
use Rattle.member_moment.proofs.Ordered.{sends_one}
use Rattle.member_moment.proofs.moment.Moment.send.Goals as goal

pub returns : goal.returns
returns c = sends_one c.args.to c.args.wire c.args.self.now _ refl (c.in_ok-push.ensures.items ∙ ap (λ f. c.args.self.now.sent.items ++ record { from = f; to = c.args.to; wire = c.args.wire } ∷ []) c.me-from.ensures) c.members_stay_in_range.ensures.sent
