-- What the commit leaves is what the rules leave, once its body is sent.
use Rattle.member_tables.proofs.Asked.{by_step_asked}
use Rattle.member_tables.proofs.Called.{by_step}
use Rattle.member_tables.proofs.Sent.{by_step_sized, by_step_spelt}
use Rattle.member_tables.proofs.tables.MemberTables.commit_call.Goals as goal

pub returns-clause-called : goal.returns-clause-called
returns-clause-called c = by_step c.args.self.now (record { tables = c.commit.new.at; sessions = c.commit.new.self }) c.args.session c.commit.result c.commit.ensures.answer c.commit.ensures.done

pub returns-clause-asked : goal.returns-clause-asked
returns-clause-asked c = by_step_asked c.args.self.now (record { tables = c.commit.new.at; sessions = c.commit.new.self }) c.args.session c.commit.result c.commit.ensures.answer c.commit.ensures.done

pub returns-clause-sized : goal.returns-clause-sized
returns-clause-sized c = by_step_sized c.args.self.now c.args.session c.commit.result c.commit.ensures.answer

pub returns-clause-spelt : goal.returns-clause-spelt
returns-clause-spelt c = by_step_spelt c.args.self.now c.args.session c.commit.result c.commit.ensures.answer c.commit.ensures.spelt
