-- The value is skipped, or kept.
use Rattle.std.proofs.Common.{refl}
use Rattle.std.proofs.lemmas.Result.{IfOk-weaker}
use Rattle.member_moment.proofs.Taken.{skips}
use Rattle.member_moment.proofs.moment.Moment.take_kept.Goals as goal

pub returns-in_ok-push-in-Skipped : goal.returns-in_ok-push-in-Skipped
returns-in_ok-push-in-Skipped c = λ base a k. skips base a c.args.taken c.args.self.now k _ refl c.in_ok-push-in-Skipped.ensures.items c.in-Skipped.is

pub returns-in-At : goal.returns-in-At
returns-in-At c = IfOk-weaker c.take_entry.result _ _ (λ d f. λ base a k. f base a c.args.taken _ refl c.in-At.is k) c.take_entry.ensures
