use Rattle.std.proofs.Common.{◌≡◌, ◌-◌, ℕ, List, [], length, ap, sym, subst, ◌∙◌, arith}
use Rattle.byte_forms.specs.Reads.{Got, Fault, whole}
use Rattle.byte_forms.specs.CutFaults.{place_of}
use Rattle.byte_forms.specs.declared.faults.CutFault.{CutFault}
use Rattle.byte_forms.proofs.ChainLemmas.{whole_ends, whole_goes_on, err_is}
use Rattle.byte_forms.proofs.FormLemmas.{whole_spelled}
use Rattle.txn_forms.specs.Bodies.{next_body}
use Rattle.txn_forms.specs.Faults.{IsFault}
use Rattle.txn_forms.specs.declared.fault.BodyFault.TheVariants.{BadBody}
use Rattle.txn_forms.proofs.BodyForms.{body_spelled}
use Rattle.txn_forms.proofs.codec.decode.Goals as goal

pub returns-in_err-end-clause-bad : goal.returns-in_err-end-clause-bad
returns-in_err-end-clause-bad c =
    let mid = c.take_body.new.from in
    let total : mid.total ≡ length c.args.bytes.now = c.in_ok-body.ensures.ok.whole ∙ c.new-from.ensures.total in
    let back : length mid.left ≡ length c.args.bytes.now - (mid.total - length mid.left) = omega (arith, total, c.end.ensures.within) in
    let goes = whole_goes_on next_body c.new-from.result c.in_ok-body.body mid c.in_ok-body.ensures.ok c.in_err-end.ensures.ends.1 in
    let fault : whole next_body c.args.bytes.now ≡ Fault (length c.args.bytes.now - (mid.total - length mid.left)) = ap (whole next_body) (sym c.new-from.ensures.left) ∙ goes ∙ ap Fault back in
    err_is c.from_residual-in_err-end.result (BadBody (place_of c.in_err-end.field-0.0)) (λ e. IsFault c.args.bytes.now e) c.from_residual-in_err-end.ensures.1
    (subst (λ (f : CutFault). IsFault c.args.bytes.now (BadBody (place_of f))) (sym c.in_err-end.ensures.ends.0) (omega (arith, total), fault))

pub returns-clause-spelled : goal.returns-clause-spelled
returns-clause-spelled c =
    let all : whole next_body c.args.bytes.now ≡ Got c.in_ok-body.body [] = ap (whole next_body) (sym c.new-from.ensures.left) ∙ whole_ends next_body c.new-from.result c.in_ok-body.body c.take_body.new.from c.in_ok-body.ensures.ok c.in_ok-end.ensures.ends in
    whole_spelled body_spelled c.args.bytes.now c.in_ok-body.body all
