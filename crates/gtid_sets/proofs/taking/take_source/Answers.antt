use Rattle.std.proofs.Common.{◌++◌, sym, ap, ◌∙◌, refl}
use Rattle.std.proofs.lemmas.List.{append-nil}
use Rattle.std.proofs.lemmas.Result.{err_from_is_err_and}
use Rattle.gtid_sets.proofs.TakeLemmas.{source_got, source_breaks, uuid_breaks}
use Rattle.gtid_sets.proofs.taking.take_source.Goals as goal

pub returns-in_err-uuid-clause-err : goal.returns-in_err-uuid-clause-err
returns-in_err-uuid-clause-err c =
    let p = err_from_is_err_and c.from_residual.result c.from_residual.ensures.1 in
    rw (p.1, p.2) (uuid_breaks c.args.before c.args.from.now _ c.in_err-uuid.ensures.misfit)

pub returns-in_err-take_intervals-clause-err : goal.returns-in_err-take_intervals-clause-err
returns-in_err-take_intervals-clause-err c =
    let p = err_from_is_err_and c.from_residual-in_err-take_intervals.result c.from_residual-in_err-take_intervals.ensures.1 in
    rw (p.1, p.2) (source_breaks c.args.before c.args.from.now c.take_uuid_above.new.from c.in_ok-uuid.uuid _ c.in_ok-uuid.ensures.ok c.in_err-take_intervals.ensures.err)

pub returns-clause-ok : goal.returns-clause-ok
returns-clause-ok c =
    let p = c.in_ok-take_intervals.ensures.ok in
    record {
      source = record { uuid = c.in_ok-uuid.uuid; intervals = p.intervals };
      reads = source_got c.args.before c.args.from.now c.take_uuid_above.new.from c.take_intervals.new.from c.in_ok-uuid.uuid p.intervals c.in_ok-uuid.ensures.ok p.reads;
      uuid = refl;
      put = p.put ∙ ap (λ xs. c.args.runs.now.items ++ xs) (sym (append-nil _));
    }
