-- What the call leaves is what the rules leave.
use Rattle.group_rules.specs.declared.requests.Request.TheVariants.{Begin}
use Rattle.member_tables.proofs.Called.{by_answer}
use Rattle.member_tables.proofs.tables.MemberTables.begin.Goals as goal

pub returns-clause-called : goal.returns-clause-called
returns-clause-called c = by_answer c.args.self.now (record { tables = c.begin.new.at; sessions = c.begin.new.self }) c.args.session (Begin c.args.level c.args.limit) c.begin.result c.begin.ensures.answer c.begin.ensures.done
