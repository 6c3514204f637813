use Rattle.std.proofs.Common.{◌∙◌, ap, sym}
use Rattle.std.specs.Io.KnownBytes.{append_known}
use Rattle.script_run.proofs.Exits.{cut_summary, put_cut}
use Rattle.script_run.proofs.make.make.Goals as goal

pub returns-then-is_err-clause-made : goal.returns-then-is_err-clause-made
returns-then-is_err-clause-made g c =
    let cut = put_cut c.put_all.result c.as_slice.result.now (sym c.is_err.ensures.value ∙ c.if-is_err.true) in
    cut_summary c.args.n c.args.from c.as_slice.result.now _ _ cut.0 c.new-then-is_err.result (c.as_slice.ensures ∙ c.in-Ok.ensures.1)
    (c.put_all.ensures.content ∙ ap (append_known (g.K.Sink.written c.args.sink.now)) cut.1) c.new-then-is_err.ensures c.in-Ok.ensures.2
