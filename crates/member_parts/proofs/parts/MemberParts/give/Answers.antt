-- What the donor keeps is what the history has.
use Rattle.member_parts.proofs.Asked.{each_fault, each_given}
use Rattle.member_parts.proofs.parts.MemberParts.give.Goals as goal

pub returns-clause-given : goal.returns-clause-given
returns-clause-given c = each_given c.args.self.now c.args.ask.now c.give.result c.give.ensures.ok

pub returns-clause-fault : goal.returns-clause-fault
returns-clause-fault c = each_fault c.args.self.now c.args.ask.now c.give.result c.give.ensures.err
