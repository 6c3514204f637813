-- It reads what is executed now.
use Rattle.std.proofs.Common.{ap, ◌∙◌}
use Rattle.group_rules.specs.declared.answers.Answer.TheVariants.{Begun as BegunWith}
use Rattle.member_tables.proofs.Beginning.{begun}
use Rattle.member_tables.proofs.Results.{if_ok, on_ok}
use Rattle.member_tables.proofs.tables.MemberTables.begun.Goals as goal

pub returns-clause-answer : goal.returns-clause-answer
returns-clause-answer c = if_ok c.begun.result (λ x e a f. e ∙ ap (λ z. BegunWith z c.args.sync) f.tables.set) c.begun.ensures.answer

pub returns-clause-begun : goal.returns-clause-begun
returns-clause-begun c = on_ok c.begun.result (λ e a f. begun a.setup a.me.inc a.life c.args.session c.args.sync c.args.self.now c.begun.new.self e c.requires f) c.begun.ensures.sessions
