-- It holds no body.
use Rattle.std.proofs.Common.{None, refl}
use Rattle.std.proofs.lemmas.Result.{on_ok_weaker}
use Rattle.member_moment.proofs.moment.Moment.own_change.Goals as goal

pub returns : goal.returns
returns c = on_ok_weaker c.own.result (λ d. d None tt (record { acknowledges = refl; number = tt; comes = refl })) c.own.ensures.does
