-- What the call leaves is what the rules leave.
use Rattle.group_rules.specs.declared.requests.Request.TheVariants.{Delete}
use Rattle.member_tables.proofs.Called.{by_answer}
use Rattle.member_tables.proofs.tables.MemberTables.delete.Goals as goal

pub returns-clause-called : goal.returns-clause-called
returns-clause-called c = by_answer c.args.self.now (record { tables = c.delete.new.at; sessions = c.delete.new.self }) c.args.session (Delete c.args.item) c.delete.result c.delete.ensures.answer c.delete.ensures.done
