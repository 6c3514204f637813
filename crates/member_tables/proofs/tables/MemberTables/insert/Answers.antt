-- What the call leaves is what the rules leave.
use Rattle.group_rules.specs.declared.requests.Request.TheVariants.{Insert}
use Rattle.member_tables.proofs.Called.{by_answer}
use Rattle.member_tables.proofs.tables.MemberTables.insert.Goals as goal

pub returns-clause-called : goal.returns-clause-called
returns-clause-called c = by_answer c.args.self.now (record { tables = c.insert.new.at; sessions = c.insert.new.self }) c.args.session (Insert c.args.item c.args.value) c.insert.result c.insert.ensures.answer c.insert.ensures.done
