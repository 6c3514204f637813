-- The session that waits is told, and nobody else.
use Rattle.local_sessions.specs.Others.{answer_of}
use Rattle.member_tables.proofs.Decided.{decided}
use Rattle.member_tables.proofs.tables.MemberTables.decided.Goals as goal

pub returns-clause-told : goal.returns-clause-told
returns-clause-told c = λ a f.
    decided a c.args.self.now (record { tables = c.decided.new.at; sessions = c.decided.new.self }) c.args.id (answer_of c.args.outcome) c.decided.result c.decided.ensures.answer c.decided.ensures.none c.decided.ensures.some f
