-- What the call leaves is what the rules leave.
use Rattle.group_rules.specs.declared.requests.Request.TheVariants.{Get}
use Rattle.member_tables.proofs.Called.{by_answer}
use Rattle.member_tables.proofs.tables.MemberTables.get.Goals as goal

pub returns-clause-called : goal.returns-clause-called
returns-clause-called c = by_answer c.args.self.now (record { tables = c.get.new.at; sessions = c.get.new.self }) c.args.session (Get c.args.item) c.get.result c.get.ensures.answer c.get.ensures.done
