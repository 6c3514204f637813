-- What is prepared is owed, where it may be.
use Rattle.std.proofs.Common.{sym}
use Rattle.member_parts.proofs.Told.{if_so, owes_none, owes_one}
use Rattle.member_parts.proofs.parts.MemberParts.owes_prepared.Goals as goal

pub returns-then-not-may_owe : goal.returns-then-not-may_owe
returns-then-not-may_owe c = λ s l e h f. owes_none s c.args.me l e c.args.one.now c.args.self.now (sym c.if-not-may_owe.ensures) h f

pub returns : goal.returns
returns c = if_so c.is_prepared.result _ _ (λ b k s l e h f. owes_one s c.args.me l e c.args.one.now c.args.self.now b (sym c.if-not-may_owe.ensures) (k s l e h f) h f) c.is_prepared.ensures
