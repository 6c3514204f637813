-- Each list loses the member.
use Rattle.std.proofs.Common.{rules}
use Rattle.prepare_acks.proofs.MapReads.{retained}
use Rattle.prepare_acks.proofs.acks.Acks.left.Goals as goal

pub returns : goal.returns
returns c g = rw (← c.self.view_is) (retained _ c.args.inc _ (λ k v b w f h. search rules) _ _ c.retain.ensures.filtered g)
