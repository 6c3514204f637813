use Rattle.std.proofs.Common.{◌≡◌, ◌-◌, ◌≤◌, List, ℕ, Some, None, length, ap, sym, subst, ◌∙◌}
use Rattle.byte_forms.specs.Cuts.{FaultsAt}
use Rattle.byte_forms.specs.CutFaults.{place_of}
use Rattle.byte_forms.specs.declared.faults.CutFault.{CutFault}
use Rattle.byte_forms.specs.Fields.{field, word}
use Rattle.key_items.specs.Floors.{passes, left_at}
use Rattle.key_items.proofs.Above.{field-within, field_is_word, above_faults}
use Rattle.byte_forms.proofs.ChainLemmas.{err_at, takes_same, faults_same}
use Rattle.key_items.proofs.floors.take_above.Goals as goal

pub place-requires : goal.place-requires
place-requires c =
    let begins = passes c.args.floor.now c.args.itself c.args.n in
    field-within begins c.args.n c.args.from.now.left c.in-Some.left (ap (λ bs. left_at (field begins c.args.n bs)) (sym c.left.ensures) ∙ sym c.misfit.ensures ∙ c.in-Some.is)

pub returns-in_err-take_slice-in-None-clause-misfit : goal.returns-in_err-take_slice-in-None-clause-misfit
returns-in_err-take_slice-in-None-clause-misfit c =
    let begins = passes c.args.floor.now c.args.itself c.args.n in
    let P : ℕ → Type 0 = λ at. FaultsAt (field begins c.args.n) c.args.from.now at in
    let none : left_at (field begins c.args.n c.args.from.now.left) ≡ None = ap (λ bs. left_at (field begins c.args.n bs)) (sym c.left.ensures) ∙ sym c.misfit.ensures ∙ c.in-None.is in
    let fault = faults_same (word c.args.n) (field begins c.args.n) c.args.from.now c.args.from.now.total (field_is_word begins c.args.n c.args.from.now.left none) c.in_err-take_slice-in-None.ensures.misfit in
    err_at c.from_residual.result (place_of c.in_err-take_slice-in-None.field-0.0) P c.from_residual.ensures.1
    (subst (λ (f : CutFault). P (place_of f)) (sym c.in_err-take_slice-in-None.ensures.short.0) fault)

pub returns-in-Some-clause-misfit : goal.returns-in-Some-clause-misfit
returns-in-Some-clause-misfit c =
    let begins = passes c.args.floor.now c.args.itself c.args.n in
    let is : left_at (field begins c.args.n c.args.from.now.left) ≡ Some c.in-Some.left = ap (λ bs. left_at (field begins c.args.n bs)) (sym c.left.ensures) ∙ sym c.misfit.ensures ∙ c.in-Some.is in
    above_faults begins c.args.n c.place.result c.in-Some.left c.args.from.now c.place.ensures is

pub returns-in_ok-take_slice-in-None-clause-ok : goal.returns-in_ok-take_slice-in-None-clause-ok
returns-in_ok-take_slice-in-None-clause-ok c =
    let begins = passes c.args.floor.now c.args.itself c.args.n in
    let none : left_at (field begins c.args.n c.args.from.now.left) ≡ None = ap (λ bs. left_at (field begins c.args.n bs)) (sym c.left.ensures) ∙ sym c.misfit.ensures ∙ c.in-None.is in
    takes_same (word c.args.n) (field begins c.args.n) c.args.from.now c.in_ok-take_slice-in-None.field-0.now c.take_slice.new.self (field_is_word begins c.args.n c.args.from.now.left none)
    c.in_ok-take_slice-in-None.ensures.ok
