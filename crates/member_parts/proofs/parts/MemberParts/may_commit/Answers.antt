-- By its origin.
use Rattle.member_parts.proofs.Told.{tells_other, tells_own}
use Rattle.member_parts.proofs.parts.MemberParts.may_commit.Goals as goal

pub returns-then-is_mine : goal.returns-then-is_mine
returns-then-is_mine c = λ s l e h f. tells_own s c.args.me l e c.args.one.now c.args.self.now c.own_may_go.result c.own_may_go.ensures c.if-is_mine.ensures h f

pub returns : goal.returns
returns c = λ s l e h f. tells_other s c.args.me l e c.args.one.now c.args.self.now c.other_may_go.result c.other_may_go.ensures c.if-is_mine.ensures h f
