-- Bytes and what they hold.
use Rattle.std.proofs.Common.{Some}
use Rattle.std.proofs.lemmas.Result.{on_ok_weaker}
use Rattle.member_moment.proofs.moment.Moment.own_bytes.Goals as goal

pub returns : goal.returns
returns c = on_ok_weaker c.own.result (λ d holds spelt h. d (Some holds) spelt h) c.own.ensures.does
