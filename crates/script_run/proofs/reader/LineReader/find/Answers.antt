use Rattle.std.proofs.Common.{◌≡◌, arith, ap, ◌∙◌, length, Ok, Err}
use Rattle.std.proofs.lemmas.Result.{err_from_is_err_and}
use Rattle.script_run.specs.declared.front_line.ReadFault.TheVariants.{Failed}
use Rattle.script_run.proofs.Reading.{unended_at, unended_same, line_at}
use Rattle.script_run.proofs.reader.LineReader.find.Goals as goal

pub returns-then-at-len-clause-found : goal.returns-then-at-len-clause-found
returns-then-at-len-clause-found g c = line_at _ _ _ _ c.held-held.ensures c.find_byte-at.ensures c.if-at-len.true c.without_return-len.ensures.within c.without_return-len.ensures.line

pub returns-then-len-clause-found : goal.returns-then-len-clause-found
returns-then-len-clause-found g c =
    let same = ap length c.held-held.ensures in
    (omega arith, omega arith, (unended_at _ _ _ c.held-held.ensures c.find_byte-at.ensures c.if-at-len.false, same, omega arith))

pub returns-in_err-fill-clause-failed : goal.returns-in_err-fill-clause-failed
returns-in_err-fill-clause-failed g c = λ e.
    let p = err_from_is_err_and c.from_residual.result c.from_residual.ensures.1 in
    let was = c.in_err-fill.was in
    let failed : c.fill.result ≡ Err Failed = cc (p.1, p.2) in
    unended_same _ _ (c.fill.ensures.failed failed) (unended_at _ _ _ c.held-held.ensures c.find_byte-at.ensures c.if-at-len.false)

pub returns-then-branch-eq0-clause-found : goal.returns-then-branch-eq0-clause-found
returns-then-branch-eq0-clause-found g c =
    let was = c.in_ok-fill.was in
    let none : c.fill.result ≡ Ok 0 = was ∙ ap Ok c.if-branch-eq0.true in
    let end = c.fill.ensures.end none in
    let same = ap length c.held-held.ensures in
    let kept = ap length end.1 in
    (omega arith, omega arith, (unended_same _ _ end.1 (unended_at _ _ _ c.held-held.ensures c.find_byte-at.ensures c.if-at-len.false), omega arith, omega arith, end.0))
