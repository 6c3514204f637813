use Rattle.std.proofs.Common.{ℕ, ◌+◌, List, Some, subst, ◌∙◌, arith}
use Rattle.std.proofs.lemmas.Result.{err_from_is_err_and}
use Rattle.gtid_sets.proofs.TakeLemmas.{SourcesSoFar, set_got, set_count_breaks, set_source_breaks, more_sources}
use Rattle.gtid_sets.proofs.taking.take_set.Goals as goal

pub returns-in_err-count-clause-err : goal.returns-in_err-count-clause-err
returns-in_err-count-clause-err c =
    let p = err_from_is_err_and c.from_residual.result c.from_residual.ensures.1 in
    rw (p.1, p.2) (set_count_breaks c.args.from.now _ c.in_err-count.ensures.misfit)

pub returns-in_err-take_source-clause-err : goal.returns-in_err-take_source-clause-err
returns-in_err-take_source-clause-err c =
    let p = err_from_is_err_and c.from_residual-in_err-take_source.result c.from_residual-in_err-take_source.ensures.1 in
    rw (p.1, p.2) (set_source_breaks c.args.from.now c.take_u32_in.new.self c.sources.from c.in_ok-count.count _ _ _ _ c.in_ok-count.ensures.ok c.sources.invariant.so_far c.sources-test.true c.sources.invariant.total c.in_err-take_source.ensures.err)

pub sources-preserved : goal.sources-preserved
sources-preserved c =
    let p = c.in_ok-take_source.ensures.ok in
    let more = more_sources _ _ _ _ _ _ _ _ p.source c.sources.invariant.so_far c.sources-test.true p.reads.value p.put in
    record {
      so_far = subst (λ (u : List ℕ). SourcesSoFar c.in_ok-count.count c.take_u32_in.new.self.left (c.sources._i + 1) (Some u) c.take_source.new.runs.items c.take_source.new.from.left) p.uuid more;
      total = p.reads.whole ∙ c.sources.invariant.total;
    }

pub returns-clause-ok : goal.returns-clause-ok
returns-clause-ok c = set_got c.args.from.now c.take_u32_in.new.self c.sources.from c.in_ok-count.count _ _ _ c.in_ok-count.ensures.ok c.sources.invariant.so_far (omega arith) c.sources.invariant.total
