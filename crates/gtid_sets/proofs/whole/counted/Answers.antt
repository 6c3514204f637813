use Rattle.std.proofs.Common.{[], arith}
use Rattle.gtid_sets.proofs.RunLemmas.{run_at}
use Rattle.gtid_sets.proofs.StepLemmas.{count_below, count_more}
use Rattle.gtid_sets.proofs.whole.counted.Goals as goal

pub overflow_sub-run : goal.overflow_sub-run
overflow_sub-run c = (run_at c.args.runs.now c.loop-run.run-index _ c.loop-run-test.true c.requires).ordered

pub overflow_add-run : goal.overflow_add-run
overflow_add-run c = (let r = run_at c.args.runs.now c.loop-run.run-index (record { source = []; first = 0; last = 0 }) c.loop-run-test.true c.requires in omega (arith, r.bounded))

pub overflow_add-count : goal.overflow_add-count
overflow_add-count c =
    let r = run_at c.args.runs.now c.loop-run.run-index (record { source = []; first = 0; last = 0 }) c.loop-run-test.true c.requires in
    omega (arith, count_below c.args.runs.now c.loop-run.run-index c.requires, c.loop-run.invariant, c.from-count.ensures, r.bounded)

pub loop-run-preserved : goal.loop-run-preserved
loop-run-preserved c =
    let r = run_at c.args.runs.now c.loop-run.run-index (record { source = []; first = 0; last = 0 }) c.loop-run-test.true c.requires in
    omega (arith, count_more c.args.runs.now c.loop-run.run-index (record { source = []; first = 0; last = 0 }) c.loop-run-test.true, c.loop-run.invariant, c.from-count.ensures, r.ordered)
