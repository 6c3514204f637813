-- The stage is that of the rules.
use Rattle.std.proofs.Common.{◌∙◌}
use Rattle.member_tables.proofs.Beginning.{holding}
use Rattle.member_tables.proofs.tables.MemberTables.is_held.Goals as goal

pub returns-clause-holding : goal.returns-clause-holding
returns-clause-holding c = λ a f. c.is_held.ensures ∙ holding a c.args.self.now c.args.session f
