-- What was given is taken up, or the joiner has more than the group.
use Rattle.std.proofs.Common.{None, sym, subst, ap, ◌∙◌}
use Rattle.std.specs.List.{All}
use Rattle.std.proofs.lemmas.Result.{on_ok_weaker}
use Rattle.donor_recovery.specs.Donating.{HasNumber}
use Rattle.donor_recovery.specs.declared.at_add.Begin.{Begin}
use Rattle.member_joining.specs.Asking.{IsNotTaken}
use Rattle.member_parts.specs.Joining.{IsSpeltGiven}
use Rattle.member_moment.specs.declared.moment.Moment.{Moment}
use Rattle.member_moment.specs.Doing.{IsKept}
use Rattle.member_moment.specs.Standing.{Stands}
use Rattle.member_moment.proofs.Doing.{on_ok_two}
use Rattle.member_moment.proofs.Restored.{falls_up, numbers, spelt, stands_restored}
use Rattle.member_moment.proofs.moment.Moment.take_give.Goals as goal

pub restore-requires-clause-numbers : goal.restore-requires-clause-numbers
restore-requires-clause-numbers c = subst (All HasNumber) (sym (ap (λ (b : Begin). b.queue) c.in-Ok.ensures.begin)) (numbers c.args.give.place c.args.give.txns None c.requires.give.txns)

pub restore-requires-clause-spelt : goal.restore-requires-clause-spelt
restore-requires-clause-spelt c = subst (All IsSpeltGiven) (c.requires.all ∙ sym (ap (λ (b : Begin). b.queue) c.in-Ok.ensures.begin)) (spelt c.args.txns.now)

pub returns-in-Ok : goal.returns-in-Ok
returns-in-Ok c = on_ok_two c.restore.result (λ same restored base a w p st.
    stands_restored c.args.give base a c.args.self.now w st c.in-Ok.ensures.none_extra p c.args.txns.now c.requires c.in-Ok.begin c.in-Ok.ensures.begin c.restore.new.self
    (same ∙ ap {A = Moment} (λ (m : Moment). record m { parts = c.restore.new.self.parts }) (ap (λ j. record c.args.self.now { joining = j }) c.in-Ok.ensures.taken)) restored)
    c.restore.ensures.others c.restore.ensures.restored

pub returns-in-Err-ExtraTransactions : goal.returns-in-Err-ExtraTransactions
returns-in-Err-ExtraTransactions c = on_ok_weaker c.fall.result (λ done base a w p st.
    let fault = subst (IsNotTaken c.args.self.now.joining c.args.give) c.in-Err-ExtraTransactions.field-0-is c.in-Err-ExtraTransactions.ensures.fault in
    let q = falls_up c.args.give base a c.args.self.now w st c.in-Err-ExtraTransactions.set fault.0 fault.1 in
    subst (λ b. Stands base b c.fall.new.self) (sym q)
    (done base a (subst IsKept q p) (subst (λ j. Stands base a (record c.args.self.now { joining = j })) (sym c.in-Err-ExtraTransactions.ensures.err) st))) c.fall.ensures
