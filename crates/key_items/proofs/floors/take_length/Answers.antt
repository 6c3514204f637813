use Rattle.std.proofs.Common.{◌≡◌, ◌<◌, List, ℕ, length, ap, sym, subst, ◌∙◌, arith}
use Rattle.byte_forms.specs.Cuts.{FaultsAt}
use Rattle.byte_forms.specs.CutFaults.{place_of}
use Rattle.byte_forms.specs.declared.faults.CutFault.{CutFault}
use Rattle.byte_forms.specs.declared.faults.CutFault.TheVariants.{Short}
use Rattle.key_items.specs.Spelling.{length_where}
use Rattle.key_items.proofs.Above.{allowed, is_allowed, is_outside, is_stuck, length_faults, length_takes, length_short}
use Rattle.byte_forms.proofs.ChainLemmas.{err_at}
use Rattle.key_items.proofs.floors.take_length.Goals as goal

pub returns-in_err-n-clause-misfit : goal.returns-in_err-n-clause-misfit
returns-in_err-n-clause-misfit c =
    let test = allowed c.args.high c.args.floor.now c.args.itself in
    let short : length c.args.from.now.left < 1 = subst (λ x. length x.left < 1) c.fork-ahead.ensures c.in_err-n.ensures.short.1 in
    let P : ℕ → Type 0 = λ at. FaultsAt (length_where test) c.args.from.now at in
    err_at c.from_residual.result (place_of c.in_err-n.field-0.0) P c.from_residual.ensures.1
    (subst (λ (f : CutFault). P (place_of f)) (sym (c.in_err-n.ensures.short.0 ∙ ap (λ cut. Short cut.total) c.fork-ahead.ensures)) (length_short test c.args.from.now short))

pub returns-then-n-eq0-clause-misfit : goal.returns-then-n-eq0-clause-misfit
returns-then-n-eq0-clause-misfit c =
    length_faults (allowed c.args.high c.args.floor.now c.args.itself) c.in_ok-n.n c.at-at.result c.args.from.now c.fork-ahead.result c.take_u8.new.self
    (omega arith) c.at-at.ensures c.fork-ahead.ensures c.in_ok-n.ensures.ok (is_outside c.args.high c.args.floor.now c.args.itself c.in_ok-n.n c.then-n-eq0.either)

pub returns-then-not-can_pass-clause-misfit : goal.returns-then-not-can_pass-clause-misfit
returns-then-not-can_pass-clause-misfit c =
    length_faults (allowed c.args.high c.args.floor.now c.args.itself) c.in_ok-n.n c.at-at.result c.args.from.now c.fork-ahead.result c.take_u8.new.self
    (omega arith) c.at-at.ensures c.fork-ahead.ensures c.in_ok-n.ensures.ok (is_stuck c.args.high c.args.floor.now c.args.itself c.in_ok-n.n (sym c.can_pass.ensures ∙ c.if-not-can_pass.true))

pub returns-clause-ok : goal.returns-clause-ok
returns-clause-ok c =
    length_takes (allowed c.args.high c.args.floor.now c.args.itself) c.in_ok-n.n c.args.from.now c.fork-ahead.result c.take_u8.new.self
    (omega arith) c.fork-ahead.ensures c.in_ok-n.ensures.ok c.in_ok-n.ensures.total
    (is_allowed c.args.high c.args.floor.now c.args.itself c.in_ok-n.n c.if-n-eq0.false c.if-n-high.false (sym c.can_pass.ensures ∙ c.if-not-can_pass.false))
