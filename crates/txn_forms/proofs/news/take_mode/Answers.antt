use Rattle.std.proofs.Common.{◌≡◌, refl, arith, Some}
use Rattle.byte_forms.specs.Cuts.{FaultsAt}
use Rattle.byte_forms.specs.Fields.{number_in}
use Rattle.byte_forms.proofs.ChainLemmas.{reached, reached_on, reached_end, faults_there, takes_equal, err_is}
use Rattle.txn_forms.specs.Bodies.{next_mode, Single}
use Rattle.txn_forms.proofs.news.take_mode.Goals as goal

pub returns-in_err-take_inc-in_default-clause-misfit : goal.returns-in_err-take_inc-in_default-clause-misfit
unfolding next_mode
returns-in_err-take_inc-in_default-clause-misfit c =
    let last : c.in_ok-take_u8_in.field-0 ≡ 2 = omega (arith, c.in_ok-take_u8_in.ensures.range.0, c.in_ok-take_u8_in.ensures.range.1) in
    let kind = takes_equal (number_in 1 0 2) c.args.from.now c.in_ok-take_u8_in.field-0 2 c.take_u8_in.new.self last c.in_ok-take_u8_in.ensures.ok in
    let at1 = reached_on _ 2 (reached next_mode c.args.from.now c.args.from.now refl) kind in
    err_is c.from_residual-in_err-take_inc-in_default.result c.in_err-take_inc-in_default.field-0.0 (λ e. FaultsAt next_mode c.args.from.now e.at) c.from_residual-in_err-take_inc-in_default.ensures.1
    (faults_there _ c.in_err-take_inc-in_default.field-0.0.at at1 c.in_err-take_inc-in_default.ensures.misfit)

pub returns-in_ok-take_inc-in_default-clause-ok : goal.returns-in_ok-take_inc-in_default-clause-ok
unfolding next_mode
returns-in_ok-take_inc-in_default-clause-ok c =
    let last : c.in_ok-take_u8_in.field-0 ≡ 2 = omega (arith, c.in_ok-take_u8_in.ensures.range.0, c.in_ok-take_u8_in.ensures.range.1) in
    let kind = takes_equal (number_in 1 0 2) c.args.from.now c.in_ok-take_u8_in.field-0 2 c.take_u8_in.new.self last c.in_ok-take_u8_in.ensures.ok in
    let at1 = reached_on _ 2 (reached next_mode c.args.from.now c.args.from.now refl) kind in
    let at2 = reached_on _ c.in_ok-take_inc-in_default.field-0 at1 c.in_ok-take_inc-in_default.ensures.ok in
    reached_end (Single (Some c.in_ok-take_inc-in_default.field-0)) at2
