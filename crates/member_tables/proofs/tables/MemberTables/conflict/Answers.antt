-- The one that waits is answered.
use Rattle.std.proofs.Common.{sym, ap, ◌∙◌, subst}
use Rattle.std.specs.Prelude.{option_to_list}
use Rattle.group_rules.specs.declared.answers.Answer.TheVariants.{Conflict as ConflictWith}
use Rattle.group_rules.specs.Member.{Member}
use Rattle.local_sessions.specs.Acting.{tell}
use Rattle.local_sessions.specs.Others.{asking}
use Rattle.member_tables.specs.Standing.{TablesFor}
use Rattle.member_tables.proofs.Answering.{conflicts}
use Rattle.member_tables.proofs.Decided.{tells}
use Rattle.member_tables.proofs.tables.MemberTables.conflict.Goals as goal

pub returns-clause-answer : goal.returns-clause-answer
returns-clause-answer c = λ a f.
    conflicts a c.args.self.now c.args.id c.args.gtid c.decided.ensures.order f
    ∙ (tells a (ConflictWith c.args.gtid) (asking c.args.self.now.sessions c.args.id) ∙ ap (λ o. tell (option_to_list o) a) (sym c.decided.ensures.answer))

pub returns-clause-conflicted : goal.returns-clause-conflicted
returns-clause-conflicted c = λ a f. subst (λ (m : Member). TablesFor m c.decided.new.self) (sym (conflicts a c.args.self.now c.args.id c.args.gtid c.decided.ensures.order f)) (c.decided.ensures.told a f)
