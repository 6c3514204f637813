-- The value is made, and the node proposes it.
use Rattle.std.proofs.Common.{rules, refl, ap, sym, subst}
use Rattle.std.proofs.lemmas.Result.{on_ok_weaker}
use Rattle.group_rules.specs.Member.{own}
use Rattle.member_tables.specs.Standing.{TablesFor}
use Rattle.member_moment.proofs.Doing.{on_ok_two}
use Rattle.member_moment.proofs.Owned.{own_rest, own_tables}
use Rattle.member_moment.proofs.moment.Moment.own.Goals as goal

pub returns-clause-rest : goal.returns-clause-rest
returns-clause-rest c = on_ok_weaker c.at_node.result (λ d base a holds spelt h r.
    own_rest base a c.args.what holds c.args.arrives c.in_ok-number.number c.args.self.now (record c.args.self.now { own = c.make.new.self; parts = c.made.new.self }) _ c.in_ok-number.ensures.number (search rules) c.requires refl c.in_ok-number.ensures.made h.comes spelt
    (λ v n p. c.in_ok-made.ensures a.setup a.me.inc a.life v holds h.acknowledges h.number n p) (d base) r) c.at_node.ensures.rest

pub returns-clause-does : goal.returns-clause-does
returns-clause-does c = on_ok_two c.at_node.result (λ d o holds spelt h base a p st. record {
  rest = d base a holds spelt h st.rest;
  tables = subst (λ t. TablesFor (own c.args.what holds a) t) (sym (ap (λ z. z.tables) o)) (own_tables a c.args.what holds c.args.self.now.tables st.tables);
}) (returns-clause-rest c) c.at_node.ensures.others
