-- The queue stays.
use Rattle.member_tables.proofs.Listed.{states}
use Rattle.member_tables.proofs.tables.MemberTables.stated.Goals as goal

pub returns : goal.returns
returns c = λ a x h k f. states a.setup a.me.inc a.life c.args.self.now c.args.state x h k f
