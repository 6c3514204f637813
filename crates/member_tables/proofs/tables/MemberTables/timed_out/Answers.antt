-- The session is told its last answer.
use Rattle.group_rules.specs.declared.answers.Answer.TheVariants.{HoldTimeout as TimedOut}
use Rattle.member_tables.proofs.Beginning.{timed_out}
use Rattle.member_tables.proofs.tables.MemberTables.timed_out.Goals as goal

pub returns-clause-ended : goal.returns-clause-ended
returns-clause-ended c = λ a f. timed_out a c.args.self.now c.timed_out.new.self c.args.session (TimedOut c.args.limit) c.timed_out.ensures.sessions c.requires f
