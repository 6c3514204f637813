-- What is told is the whole answer of the rules.
use Rattle.std.proofs.Common.{sym, subst}
use Rattle.group_rules.specs.Taking.{on_conflict}
use Rattle.member_tables.specs.declared.tables.MemberTables.{MemberTables}
use Rattle.member_tables.specs.Standing.{TablesFor}
use Rattle.group_rules.specs.Member.{Member}
use Rattle.member_moment.specs.Standing.{RestFor}
use Rattle.member_moment.proofs.Aside.{other_tables}
use Rattle.member_moment.proofs.Ended.{both_ok}
use Rattle.member_moment.proofs.moment.Moment.conflict.Goals as goal

pub returns-in-Some : goal.returns-in-Some
returns-in-Some c = both_ok c.tell.result
    (λ r t. λ base a p st. record {
      rest = subst (λ (b : Member). RestFor base b c.tell.new.self) (sym (c.in-Some.ensures.answer a st.tables)) (r base a (other_tables base a c.args.self.now c.conflict.new.self st.rest));
      tables = subst (λ (z : MemberTables). TablesFor (on_conflict c.args.id c.args.gtid a) z) (sym t) (c.in-Some.ensures.conflicted a st.tables);
    })
    c.tell.ensures.rest c.tell.ensures.tables

pub returns-in-None : goal.returns-in-None
returns-in-None c = λ base a p st. record {
  rest = subst (λ (b : Member). RestFor base b (record c.args.self.now { tables = c.conflict.new.self })) (sym (c.in-None.ensures.answer a st.tables)) (other_tables base a c.args.self.now c.conflict.new.self st.rest);
  tables = c.in-None.ensures.conflicted a st.tables;
}
