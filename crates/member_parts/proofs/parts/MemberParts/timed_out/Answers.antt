-- The hold ends.
use Rattle.member_parts.specs.declared.parts.MemberParts.{MemberParts}
use Rattle.member_parts.proofs.Holds.{timed_out_as}
use Rattle.member_parts.proofs.Turns.{turn_as}
use Rattle.member_parts.proofs.parts.MemberParts.timed_out.Goals as goal

pub returns-clause-turn : goal.returns-clause-turn
returns-clause-turn c =
    (let x : MemberParts = c.args.self.now in
    turn_as c.timed_out.result x (record x { waits = c.timed_out.new.self }) c.timed_out.ensures.turn c.timed_out.ensures.rest)

pub returns-clause-ends : goal.returns-clause-ends
returns-clause-ends c =
    (let x : MemberParts = c.args.self.now in
    timed_out_as c.timed_out.result x (record x { waits = c.timed_out.new.self }) c.timed_out.ensures.rest)
