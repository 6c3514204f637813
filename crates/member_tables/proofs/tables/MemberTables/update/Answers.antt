-- What the call leaves is what the rules leave.
use Rattle.group_rules.specs.declared.requests.Request.TheVariants.{Update}
use Rattle.member_tables.proofs.Called.{by_answer}
use Rattle.member_tables.proofs.tables.MemberTables.update.Goals as goal

pub returns-clause-called : goal.returns-clause-called
returns-clause-called c = by_answer c.args.self.now (record { tables = c.update.new.at; sessions = c.update.new.self }) c.args.session (Update c.args.item c.args.value) c.update.result c.update.ensures.answer c.update.ensures.done
