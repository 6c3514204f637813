use Rattle.std.proofs.Common.{◌≡◌, ◌<◌, ℕ, suc, List, [], Option, None, Ok, length, sym, ap, subst, ◌∙◌, arith}
use Rattle.std.proofs.lemmas.Bool.{false≢true}
use Rattle.std.proofs.lemmas.Result.{err_from_is_err_and}
use Rattle.gtid_sets.specs.declared.scanner.Joint.TheVariants.{End}
use Rattle.gtid_sets.specs.Sets.{Gtids}
use Rattle.gtid_sets.specs.Canonical.{IsCanonical}
use Rattle.gtid_sets.specs.Grammar.{Found, next_run, next_joint, after_blanks, source_behind, runs_in}
use Rattle.gtid_sets.proofs.RunLemmas.{canonical_with_run}
use Rattle.gtid_sets.proofs.Scanning.{ReadsOn, fault_in, run_refused, joint_refused, reads_last, reads_next}
use Rattle.gtid_sets.proofs.parsing.read_runs.Goals as goal
use Rattle.gtid_sets.proofs.parsing.read_runs.Goals.{in-End, in_default}

pub returns-in_err-run-clause-err : goal.returns-in_err-run-clause-err
returns-in_err-run-clause-err c =
    let p = err_from_is_err_and c.from_residual.result c.from_residual.ensures.1 in
    let i = c.runs.invariant in
    let refused = ap (λ t. next_run t c.runs.before c.runs.scanner.left) (sym i.total) ∙ c.in_err-run.ensures.refused in
    rw (p.1, p.2) (fault_in _ _ (run_refused _ _ _ _ _ _ i.on refused))

pub returns-in_err-joint-clause-err : goal.returns-in_err-joint-clause-err
returns-in_err-joint-clause-err c =
    let p = err_from_is_err_and c.from_residual-in_err-joint.result c.from_residual-in_err-joint.ensures.1 in
    let i = c.runs.invariant in
    let f = c.in_ok-run.ensures.found in
    let found = ap (λ t. next_run t c.runs.before c.runs.scanner.left) (sym i.total) ∙ f.value in
    let total = c.skip_blanks.ensures.total ∙ f.whole ∙ i.total in
    let refused = ap (λ t. next_joint t (after_blanks c.take_run.new.self.left)) (sym total) ∙ ap (next_joint c.skip_blanks.new.self.total) (sym c.skip_blanks.ensures.left) ∙ c.in_err-joint.ensures.refused in
    rw (p.1, p.2) (fault_in _ _ (joint_refused _ _ _ _ _ _ _ _ i.on found refused))

pub returns-then-matches-clause-ok : goal.returns-then-matches-clause-ok
returns-then-matches-clause-ok c =
    elim c.match-matches.branch [
      | in-End w ↦ (let i = c.runs.invariant in
          let f = c.in_ok-run.ensures.found in
          let found = ap (λ t. next_run t c.runs.before c.runs.scanner.left) (sym i.total) ∙ f.value in
          let total = c.skip_blanks.ensures.total ∙ f.whole ∙ i.total in
          let joint = ap (λ t. next_joint t (after_blanks c.take_run.new.self.left)) (sym total) ∙ ap (next_joint c.skip_blanks.new.self.total) (sym c.skip_blanks.ensures.left) ∙ c.in_ok-joint.ensures.found.value in
          let last = joint ∙ ap (λ j. Found j c.take_joint.new.self.left) w.in-End.is in
          reads_last _ _ _ _ _ _ _ _ i.on found last ∙ ap Ok (sym c.in_ok-put_run.ensures))
      | in_default w ↦ absurd (false≢true (sym w.matches-is ∙ c.if-matches.true))
    ]

pub returns-then-matches-clause-canonical : goal.returns-then-matches-clause-canonical
returns-then-matches-clause-canonical c = subst IsCanonical (sym c.in_ok-put_run.ensures) (canonical_with_run c.runs.runs.items c.in_ok-run.run' c.runs.invariant.canonical c.in_ok-run.ensures.run)

pub runs-preserved : goal.runs-preserved
runs-preserved c =
    let i = c.runs.invariant in
    let f = c.in_ok-run.ensures.found in
    let found = ap (λ t. next_run t c.runs.before c.runs.scanner.left) (sym i.total) ∙ f.value in
    let total = c.skip_blanks.ensures.total ∙ f.whole ∙ i.total in
    let joint = ap (λ t. next_joint t (after_blanks c.take_run.new.self.left)) (sym total) ∙ ap (next_joint c.skip_blanks.new.self.total) (sym c.skip_blanks.ensures.left) ∙ c.in_ok-joint.ensures.found.value in
    let other : c.in_ok-joint.joint ≡ End → ⊥ = elim c.match-matches.branch [ in-End w ↦ absurd (false≢true (sym c.if-matches.false ∙ w.matches-is)) | in_default w ↦ w.in_default.not-End ] in
    let fewer : length c.take_joint.new.self.left < length c.runs.scanner.left = omega (arith, c.in_ok-joint.ensures.within, c.skip_blanks.ensures.within, c.in_ok-run.ensures.shorter) in
    let on = reads_next _ _ _ _ _ _ c.in_ok-run.run' c.in_ok-joint.joint _ i.on found joint other fewer in
    let reading = runs_in (suc (length c.args.scanner.now.left)) c.args.scanner.now.total None [] c.args.scanner.now.left in
    let put = subst (λ (runs : Gtids). ReadsOn c.args.scanner.now.total (source_behind c.in_ok-joint.joint c.in_ok-run.run'.source) runs c.take_joint.new.self.left reading) (sym c.in_ok-put_run.ensures) on in
    record {
      canonical = subst IsCanonical (sym c.in_ok-put_run.ensures) (canonical_with_run c.runs.runs.items c.in_ok-run.run' i.canonical c.in_ok-run.ensures.run);
      total = c.in_ok-joint.ensures.found.whole ∙ total;
      on = subst (λ (before : Option (List ℕ)). ReadsOn c.args.scanner.now.total before c.put_run.new.runs.items c.take_joint.new.self.left reading) (sym c.source_behind-before.ensures) put;
    }
