-- A Prepared entry is noted.
use Rattle.member_parts.proofs.Committed.{made_none, made_one}
use Rattle.member_parts.proofs.parts.MemberParts.made.Goals as goal

pub returns-in-Some : goal.returns-in-Some
returns-in-Some c = made_one c.note_sent.result c.args.prepared c.in-Some.gtid c.args.self.now c.note_sent.new.sent c.in-Some.is c.note_sent.ensures.uuid c.note_sent.ensures.noted

pub returns-in-None : goal.returns-in-None
returns-in-None c = made_none c.args.prepared c.args.self.now c.in-None.is
