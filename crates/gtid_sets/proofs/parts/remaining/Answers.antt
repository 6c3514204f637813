use Rattle.std.proofs.Common.{◌≤◌, ◌++◌, length, sym, ap, ◌∙◌, arith}
use Rattle.std.proofs.lemmas.List.{drop_all, append-nil}
use Rattle.gtid_sets.specs.Sets.{minus}
use Rattle.gtid_sets.proofs.RunLemmas.{run_at}
use Rattle.gtid_sets.proofs.StepLemmas.{minus_step, minus_nil}
use Rattle.std.proofs.Common.{drop}
use Rattle.gtid_sets.proofs.parts.remaining.Goals as goal

pub push_remaining-requires-clause-run : goal.push_remaining-requires-clause-run
push_remaining-requires-clause-run c = run_at c.args.a.now c.loop-run.run-index _ c.loop-run-test.true c.requires.first

pub loop-run-preserved : goal.loop-run-preserved
loop-run-preserved c =
    minus_step c.args.a.now c.args.b.now c.loop-run.runs.items c.push_remaining.new.runs.items c.loop-run.run-index c.loop-run.j c.in_ok-j.j _ c.loop-run-test.true c.requires.first c.in_ok-j.ensures.added c.in_ok-j.ensures.later ∙ c.loop-run.invariant

pub returns : goal.returns
returns c =
    let over : length c.args.a.now ≤ c.loop-run.run-index = omega (arith, c.loop-run-test.false) in
    sym (ap (λ xs. c.loop-run.runs.items ++ minus xs (drop c.loop-run.j c.args.b.now)) (drop_all c.loop-run.run-index c.args.a.now over) ∙ ap (λ xs. c.loop-run.runs.items ++ xs) (minus_nil (drop c.loop-run.j c.args.b.now)) ∙ append-nil c.loop-run.runs.items)
    ∙ c.loop-run.invariant
