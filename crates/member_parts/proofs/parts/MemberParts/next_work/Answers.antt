-- What is handed out is queued still.
use Rattle.member_parts.proofs.Committed.{handed_stands}
use Rattle.member_parts.proofs.parts.MemberParts.next_work.Goals as goal

pub returns-clause-stands : goal.returns-clause-stands
returns-clause-stands c = handed_stands c.next_work.result c.args.self.now c.next_work.new.self _ _ c.next_work.ensures.handed
