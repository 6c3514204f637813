-- The transaction is committed, and then its session is answered.
use Rattle.std.proofs.Common.{Option, subst}
use Rattle.gr_ids.specs.declared.names.ValueId.{ValueId}
use Rattle.member_tables.specs.Committing.{IsOf}
use Rattle.member_tables.proofs.Answering.{other_commit, own_commit}
use Rattle.member_tables.proofs.tables.MemberTables.commit.Goals as goal

pub returns-in-None-clause-committed : goal.returns-in-None-clause-committed
returns-in-None-clause-committed c = λ a x n k f.
    (other_commit a c.args.self.now c.settle.new.at x c.args.place c.args.gtid c.args.changes c.in_ok-settle.ensures.ok n
    (subst (λ (o : Option ValueId). IsOf a.me.inc x c.args.place c.args.gtid o c.args.changes) c.in-None.is k) f).1

pub returns-in-Some-clause-answer : goal.returns-in-Some-clause-answer
returns-in-Some-clause-answer c = λ a x n k f.
    (own_commit a c.args.self.now c.settle.new.at c.decided.new.self x c.args.place c.args.gtid c.in-Some.id c.args.changes c.decided.result c.decided.ensures.order c.in_ok-settle.ensures.ok c.decided.ensures.answer c.decided.ensures.told n
    (subst (λ (o : Option ValueId). IsOf a.me.inc x c.args.place c.args.gtid o c.args.changes) c.in-Some.is k) f).0

pub returns-in-Some-clause-committed : goal.returns-in-Some-clause-committed
returns-in-Some-clause-committed c = λ a x n k f.
    (own_commit a c.args.self.now c.settle.new.at c.decided.new.self x c.args.place c.args.gtid c.in-Some.id c.args.changes c.decided.result c.decided.ensures.order c.in_ok-settle.ensures.ok c.decided.ensures.answer c.decided.ensures.told n
    (subst (λ (o : Option ValueId). IsOf a.me.inc x c.args.place c.args.gtid o c.args.changes) c.in-Some.is k) f).1
