use Rattle.std.proofs.Common.{◌≡◌, ◌++◌, ◌<◌, List, ℕ, OnOk, length, subst, ◌∙◌, arith}
use Rattle.std.proofs.lemmas.Bool.Decides.{nat_tests}
use Rattle.report_text.proofs.Sets.{set_is}
use Rattle.report_text.proofs.names.put_set.Goals as goal

pub returns : goal.returns
returns c =
    let some : 0 < length c.args.set.now = grind (arith, nat_tests) in
    let same = c.as_slice.ensures ∙ c.in_ok-text.ensures ∙ set_is c.args.set.now c.runs.ensures.canonical some in
    subst (λ (t : List ℕ). OnOk c.append-2.result (c.append-2.new.self ≡ c.args.to.now ++ t)) same c.append-2.ensures.ok
