-- What the call leaves is what the rules leave.
use Rattle.group_rules.specs.declared.requests.Request.TheVariants.{Rollback}
use Rattle.member_tables.proofs.Called.{by_answer}
use Rattle.member_tables.proofs.tables.MemberTables.rollback.Goals as goal

pub returns-clause-called : goal.returns-clause-called
returns-clause-called c = by_answer c.args.self.now (record { tables = c.rollback.new.at; sessions = c.rollback.new.self }) c.args.session Rollback c.rollback.result c.rollback.ensures.answer c.rollback.ensures.done
