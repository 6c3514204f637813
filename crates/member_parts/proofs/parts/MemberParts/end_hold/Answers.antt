-- The hold ends.
use Rattle.member_parts.specs.declared.parts.MemberParts.{MemberParts}
use Rattle.member_parts.proofs.Holds.{stands_ended}
use Rattle.member_parts.proofs.parts.MemberParts.end_hold.Goals as goal

pub returns : goal.returns
returns c = λ s me l f.
    (let x : MemberParts = c.args.self.now in
    stands_ended s me l c.args.session x (record x { waits = c.end.new.self }) c.end.ensures f)
