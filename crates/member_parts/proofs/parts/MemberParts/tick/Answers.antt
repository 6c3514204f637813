-- The watch and the holds count on.
use Rattle.member_parts.specs.declared.parts.MemberParts.{MemberParts}
use Rattle.member_parts.proofs.Begun.{stands_tick}
use Rattle.member_parts.proofs.parts.MemberParts.tick.Goals as goal

pub returns : goal.returns
returns c = λ s me l f.
    (let x : MemberParts = c.args.self.now in
    stands_tick s me l x (record x { watch = c.tick.new.self; waits = c.tick-2.new.self }) f c.tick.ensures c.tick-2.ensures)
