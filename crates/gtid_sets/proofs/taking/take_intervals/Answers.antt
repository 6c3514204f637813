use Rattle.std.proofs.Common.{◌+◌, sym, subst, ◌∙◌, arith}
use Rattle.std.proofs.lemmas.Result.{err_from_is_err_and}
use Rattle.gtid_sets.specs.Sets.{Gtids}
use Rattle.gtid_sets.proofs.TakeLemmas.{IntervalsSoFar, list_got, list_breaks, more_intervals, all_intervals, intervals_break}
use Rattle.gtid_sets.proofs.taking.take_intervals.Goals as goal

pub returns-in_err-run-clause-err : goal.returns-in_err-run-clause-err
returns-in_err-run-clause-err c =
    let p = err_from_is_err_and c.from_residual-in_err-run.result c.from_residual-in_err-run.ensures.1 in
    let m = c.in_err-run.ensures.misfit in
    let broken = intervals_break _ _ _ _ _ _ _ _ _ c.intervals.invariant.so_far c.intervals-test.true m.fault in
    rw (p.1, p.2) (list_breaks 1 _ c.args.from.now c.take_u32_in.new.self c.in_ok-count.count _ c.intervals.from.total c.in_ok-count.ensures.ok broken c.intervals.invariant.total m.within)

pub intervals-preserved : goal.intervals-preserved
intervals-preserved c =
    let t = c.in_ok-run.ensures.ok in
    let more = more_intervals _ _ _ _ _ _ _ _ _ c.in_ok-run.run' c.intervals.invariant.so_far c.intervals-test.true c.in_ok-run.ensures.source t.value in
    record {
      so_far = subst (λ (runs : Gtids). IntervalsSoFar c.args.source c.in_ok-count.count c.take_u32_in.new.self.left c.args.runs.now.items (c.intervals._i + 1) (c.in_ok-run.run'.last + 2) runs c.take_run.new.from.left) (sym c.in_ok-push.ensures.items) more;
      total = t.whole ∙ c.intervals.invariant.total;
    }

pub returns-clause-ok : goal.returns-clause-ok
returns-clause-ok c =
    let all = all_intervals _ _ _ _ _ _ _ _ c.intervals.invariant.so_far (omega arith) in
    record {
      intervals = c.intervals.invariant.so_far.done;
      reads = list_got 1 _ c.args.from.now c.take_u32_in.new.self c.intervals.from c.in_ok-count.count _ c.in_ok-count.ensures.ok all c.intervals.invariant.total;
      put = c.intervals.invariant.so_far.put;
    }
