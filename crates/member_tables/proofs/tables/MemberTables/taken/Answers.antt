-- The view is the one after the entry.
use Rattle.member_tables.proofs.Listed.{taken}
use Rattle.member_tables.proofs.tables.MemberTables.taken.Goals as goal

pub returns : goal.returns
returns c = λ a e k d m o f. taken a.setup a.me.inc a.life c.args.self.now e c.args.mode c.args.primary k d m o f
