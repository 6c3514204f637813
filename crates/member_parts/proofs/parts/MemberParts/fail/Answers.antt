-- Nothing is queued.
use Rattle.member_parts.proofs.Committed.{stands_failed}
use Rattle.member_parts.proofs.parts.MemberParts.fail.Goals as goal

pub returns : goal.returns
returns c = λ s me l x f. stands_failed s me l x c.args.self.now c.new.result c.new-2.result c.new.ensures f
