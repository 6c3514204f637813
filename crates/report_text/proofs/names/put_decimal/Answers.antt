use Rattle.std.proofs.Common.{◌≡◌, ◌++◌, List, ℕ, OnOk, sym, subst, ◌∙◌}
use Rattle.report_text.proofs.Numerals.{numerals}
use Rattle.report_text.proofs.names.put_decimal.Goals as goal

pub returns : goal.returns
returns c =
    let same = c.as_bytes.ensures.value ∙ c.format.ensures.text ∙ sym (numerals c.args.n c.ranges.n.fits) in
    subst (λ (t : List ℕ). OnOk c.append.result (c.append.new.self ≡ c.args.to.now ++ t)) same c.append.ensures.ok
