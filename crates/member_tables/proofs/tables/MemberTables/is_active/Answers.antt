-- The stage is that of the rules.
use Rattle.std.proofs.Common.{◌∙◌}
use Rattle.member_tables.proofs.Active.{active_is}
use Rattle.member_tables.proofs.tables.MemberTables.is_active.Goals as goal

pub returns : goal.returns
returns c = λ a f. c.is_open.ensures ∙ active_is a c.args.self.now c.args.session f
