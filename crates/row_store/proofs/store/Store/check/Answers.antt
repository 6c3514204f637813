-- Whether the row is there decides.
use Rattle.std.proofs.Common.{ap, sym, ◌∙◌}
use Rattle.std.specs.Prelude.{is_some}
use Rattle.row_store.specs.Chains.{row_now, row_own}
use Rattle.row_store.specs.Presence.{is_there}
use Rattle.row_store.proofs.Folds.{there_is, fits_taken, fits_free, fits_there, fits_gone, copied_some}
use Rattle.row_store.proofs.store.Store.check.Goals as goal

pub returns-in-Insert-clause-err : goal.returns-in-Insert-clause-err
returns-in-Insert-clause-err c =
    let there = there_is c.args.change.now.item (row_now c.args.self.now c.args.change.now.item) c.args.own.now
    ∙ (ap (λ b. is_there c.args.change.now.item b c.args.own.now) (ap is_some (sym c.get.ensures) ∙ (copied_some c.get.result ∙ sym c.is_some.ensures)) ∙ (sym c.is_there_after-there.ensures ∙ c.if-there.true)) in
    fits_taken c.args.change.now.what (row_own c.args.self.now c.args.own.now c.args.change.now.item) c.in-Insert.field-0 c.in-Insert.is there

pub returns-in-Insert-2-clause-ok : goal.returns-in-Insert-2-clause-ok
returns-in-Insert-2-clause-ok c =
    let there = there_is c.args.change.now.item (row_now c.args.self.now c.args.change.now.item) c.args.own.now
    ∙ (ap (λ b. is_there c.args.change.now.item b c.args.own.now) (ap is_some (sym c.get.ensures) ∙ (copied_some c.get.result ∙ sym c.is_some.ensures)) ∙ (sym c.is_there_after-there.ensures ∙ c.if-there.false)) in
    fits_free c.args.change.now.what (row_own c.args.self.now c.args.own.now c.args.change.now.item) c.in-Insert-2.field-0 c.in-Insert-2.is there

pub returns-in_default : goal.returns-in_default
returns-in_default c =
    let there = there_is c.args.change.now.item (row_now c.args.self.now c.args.change.now.item) c.args.own.now
    ∙ (ap (λ b. is_there c.args.change.now.item b c.args.own.now) (ap is_some (sym c.get.ensures) ∙ (copied_some c.get.result ∙ sym c.is_some.ensures)) ∙ (sym c.is_there_after-there.ensures ∙ c.if-there-2.true)) in
    record { ok = fits_there c.args.change.now.what (row_own c.args.self.now c.args.own.now c.args.change.now.item) c.in_default.not-Insert there; err = tt }

pub returns-in_default-2 : goal.returns-in_default-2
returns-in_default-2 c =
    let there = there_is c.args.change.now.item (row_now c.args.self.now c.args.change.now.item) c.args.own.now
    ∙ (ap (λ b. is_there c.args.change.now.item b c.args.own.now) (ap is_some (sym c.get.ensures) ∙ (copied_some c.get.result ∙ sym c.is_some.ensures)) ∙ (sym c.is_there_after-there.ensures ∙ c.if-there-2.false)) in
    record { ok = tt; err = fits_gone c.args.change.now.what (row_own c.args.self.now c.args.own.now c.args.change.now.item) c.in_default.not-Insert there }
