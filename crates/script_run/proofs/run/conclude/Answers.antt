use Rattle.std.proofs.Common.{◌∙◌, ap, sym}
use Rattle.std.specs.Io.KnownBytes.{append_known}
use Rattle.script_run.proofs.Exits.{cut_report, put_cut}
use Rattle.script_run.proofs.run.conclude.Goals as goal

pub returns-then-is_err-clause-concluded : goal.returns-then-is_err-clause-concluded
returns-then-is_err-clause-concluded g c = λ s stands.
    let cut = put_cut c.put_all.result c.as_slice.result.now (sym c.is_err.ensures.value ∙ c.if-is_err.true) in
    cut_report c.args.report c.args.lines s.play c.as_slice.result.now _ _ cut.0 c.new-then-is_err.result c.if-not-report.false (c.as_slice.ensures ∙ c.in-Ok.ensures s stands)
    (c.put_all.ensures.content ∙ ap (append_known (g.K.Sink.written c.args.sink.now)) cut.1) c.new-then-is_err.ensures
