use Rattle.std.proofs.Common.{◌≡◌, ◌-◌, ℕ, Some, length, ap, sym, refl, subst, ◌∙◌, arith}
use Rattle.byte_forms.specs.Cuts.{Cut, Takes, FaultsAt}
use Rattle.byte_forms.specs.Reads.{Fault}
use Rattle.byte_forms.specs.Unreads.{Breaks}
use Rattle.byte_forms.specs.declared.unread.Unread.TheVariants.{Misfit}
use Rattle.byte_forms.proofs.ChainLemmas.{reached, reached_on, faults_there, breaks_there, err_is}
use Rattle.key_items.specs.declared.item.Item.{Item}
use Rattle.txn_forms.specs.Changes.{next_change, next_index, next_kind, change_at}
use Rattle.txn_forms.proofs.Indexes.{change_there, change_past}
use Rattle.txn_forms.proofs.changes.take_change.Goals as goal

pub returns-in_err-index-clause-misfit : goal.returns-in_err-index-clause-misfit
unfolding next_change
returns-in_err-index-clause-misfit c =
    let form = next_change c.args.items.now in
    let at0 = reached form c.args.from.now c.args.from.now refl in
    let fault = subst (λ (n : ℕ). FaultsAt (next_index n) c.args.from.now c.in_err-index.field-0.0.at) c.len.ensures c.in_err-index.ensures.misfit in
    err_is c.from_residual.result (Misfit c.in_err-index.field-0.0.at) (λ e. Breaks form c.args.from.now e) c.from_residual.ensures.1 (faults_there _ c.in_err-index.field-0.0.at at0 fault)

pub returns-in_err-what-clause-misfit : goal.returns-in_err-what-clause-misfit
unfolding next_change
returns-in_err-what-clause-misfit c =
    let form = next_change c.args.items.now in
    let at0 = reached form c.args.from.now c.args.from.now refl in
    let index = subst (λ (n : ℕ). Takes (next_index n) c.args.from.now c.in_ok-index.index c.take_index.new.from) c.len.ensures c.in_ok-index.ensures.ok in
    let at1 = reached_on _ c.in_ok-index.index at0 index in
    err_is c.from_residual-in_err-what.result c.in_err-what.field-0.0 (λ e. Breaks form c.args.from.now e) c.from_residual-in_err-what.ensures.1 (breaks_there next_kind _ c.in_err-what.field-0.0 at1 c.in_err-what.ensures.misfit)

pub returns-in-None-clause-misfit : goal.returns-in-None-clause-misfit
unfolding next_change
returns-in-None-clause-misfit c =
    let form = next_change c.args.items.now in
    let at0 = reached form c.args.from.now c.args.from.now refl in
    let index = subst (λ (n : ℕ). Takes (next_index n) c.args.from.now c.in_ok-index.index c.take_index.new.from) c.len.ensures c.in_ok-index.ensures.ok in
    let at1 = reached_on _ c.in_ok-index.index at0 index in
    let at2 = reached_on _ c.in_ok-what.what at1 c.in_ok-what.ensures.ok in
    let back : length c.take_kind.new.from.left ≡ c.args.from.now.total - c.at-in-None.result = omega (arith, c.at-in-None.ensures, at2.total) in
    record { fault = at2.left ∙ change_past c.args.items.now c.in_ok-index.index c.in_ok-what.what c.take_kind.new.from.left c.in-None.ensures ∙ ap Fault back; within = omega (arith, c.at-in-None.ensures, at2.total) }

pub returns-clause-ok : goal.returns-clause-ok
unfolding next_change
returns-clause-ok c =
    let form = next_change c.args.items.now in
    let at0 = reached form c.args.from.now c.args.from.now refl in
    let index = subst (λ (n : ℕ). Takes (next_index n) c.args.from.now c.in_ok-index.index c.take_index.new.from) c.len.ensures c.in_ok-index.ensures.ok in
    let at1 = reached_on _ c.in_ok-index.index at0 index in
    let at2 = reached_on _ c.in_ok-what.what at1 c.in_ok-what.ensures.ok in
    let there = change_there c.args.items.now c.in_ok-item-in-Some.item c.in_ok-index.index c.in_ok-what.what c.take_kind.new.from.left (c.in-Some.ensures ∙ ap (λ (i : Item). Some i) (sym c.in_ok-item-in-Some.ensures)) in
    record { value = at2.left ∙ there; whole = at2.total }
