use Rattle.std.proofs.Common.{◌≡◌, sym, ap, subst, ◌∙◌, Result, Ok}
use Rattle.std.proofs.lemmas.Bool.{false≢true}
use Rattle.std.specs.Result.{IfOk, IfErr}
use Rattle.gtid_sets.specs.declared.faults.TextFault.{TextFault}
use Rattle.gtid_sets.specs.Sets.{Gtids}
use Rattle.gtid_sets.specs.Scans.{IsFaultIn}
use Rattle.gtid_sets.specs.Grammar.{after_blanks}
use Rattle.gtid_sets.proofs.Scanning.{set_of_blanks, set_of_runs}
use Rattle.gtid_sets.proofs.parsing.read_set.Goals as goal

pub returns-then-is_at_end-clause-ok : goal.returns-then-is_at_end-clause-ok
returns-then-is_at_end-clause-ok c =
    let front = c.skip_blanks.ensures.left ∙ ap after_blanks c.new-scanner.ensures.left in
    set_of_blanks _ _ front (c.is_at_end.ensures.0 c.if-is_at_end.true) ∙ ap Ok (sym c.new.ensures.items)

pub returns-clause-ok : goal.returns-clause-ok
returns-clause-ok c =
    let front = c.skip_blanks.ensures.left ∙ ap after_blanks c.new-scanner.ensures.left in
    let total = c.skip_blanks.ensures.total ∙ c.new-scanner.ensures.total in
    let reads = set_of_runs _ _ _ front total (λ e. false≢true (sym c.if-is_at_end.false ∙ c.is_at_end.ensures.1 e)) in
    subst (λ (r : Result Gtids TextFault). IfOk c.read_runs.result (λ runs. r ≡ Ok runs.items)) (sym reads) c.read_runs.ensures.ok

pub returns-clause-err : goal.returns-clause-err
returns-clause-err c =
    let front = c.skip_blanks.ensures.left ∙ ap after_blanks c.new-scanner.ensures.left in
    let total = c.skip_blanks.ensures.total ∙ c.new-scanner.ensures.total in
    let reads = set_of_runs _ _ _ front total (λ e. false≢true (sym c.if-is_at_end.false ∙ c.is_at_end.ensures.1 e)) in
    subst (λ (r : Result Gtids TextFault). IfErr c.read_runs.result (λ e. IsFaultIn r e)) (sym reads) c.read_runs.ensures.err
