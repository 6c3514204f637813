use Rattle.std.proofs.Common.{◌≡◌, ℕ, refl, subst}
use Rattle.byte_forms.specs.Cuts.{Takes}
use Rattle.byte_forms.specs.Fields.{number_in}
use Rattle.byte_forms.specs.Unreads.{Breaks}
use Rattle.byte_forms.specs.declared.unread.Unread.TheVariants.{Misfit}
use Rattle.byte_forms.proofs.ChainLemmas.{reached, reached_on, reached_end, faults_there, err_is, takes_equal}
use Rattle.slot_values.specs.Spelling.{least_kind, next_what}
use Rattle.slot_values.specs.Values.{Remove}
use Rattle.slot_values.proofs.spelling.take_what.Goals as goal

pub returns-in_err-take_inc-in-2-clause-misfit : goal.returns-in_err-take_inc-in-2-clause-misfit
unfolding next_what
returns-in_err-take_inc-in-2-clause-misfit c =
    let form = next_what c.args.number in
    let kind = subst (λ (low : ℕ). Takes (number_in 1 low 3) c.args.from.now c.in_ok-take_u8_in.field-0 c.take_u8_in.new.self) c.least_kind.ensures c.in_ok-take_u8_in.ensures.ok in
    let two = takes_equal (number_in 1 (least_kind c.args.number) 3) c.args.from.now c.in_ok-take_u8_in.field-0 2 c.take_u8_in.new.self c.in-2.is kind in
    let at1 = reached_on _ 2 (reached form c.args.from.now c.args.from.now refl) two in
    err_is c.from_residual-in_err-take_inc-in-2.result (Misfit c.in_err-take_inc-in-2.field-0.0.at) (λ e. Breaks form c.args.from.now e) c.from_residual-in_err-take_inc-in-2.ensures.1
    (faults_there _ c.in_err-take_inc-in-2.field-0.0.at at1 c.in_err-take_inc-in-2.ensures.misfit)

pub returns-in_ok-take_inc-in-2-clause-ok : goal.returns-in_ok-take_inc-in-2-clause-ok
unfolding next_what
returns-in_ok-take_inc-in-2-clause-ok c =
    let form = next_what c.args.number in
    let kind = subst (λ (low : ℕ). Takes (number_in 1 low 3) c.args.from.now c.in_ok-take_u8_in.field-0 c.take_u8_in.new.self) c.least_kind.ensures c.in_ok-take_u8_in.ensures.ok in
    let two = takes_equal (number_in 1 (least_kind c.args.number) 3) c.args.from.now c.in_ok-take_u8_in.field-0 2 c.take_u8_in.new.self c.in-2.is kind in
    let at1 = reached_on _ 2 (reached form c.args.from.now c.args.from.now refl) two in
    let at2 = reached_on _ c.in_ok-take_inc-in-2.field-0 at1 c.in_ok-take_inc-in-2.ensures.ok in
    reached_end (Remove c.in_ok-take_inc-in-2.field-0) at2
