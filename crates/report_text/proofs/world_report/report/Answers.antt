use Rattle.std.proofs.Common.{◌∙◌}
use Rattle.std.proofs.lemmas.Result.{IfOk-weaker}
use Rattle.report_text.proofs.Values.{report_without}
use Rattle.report_text.proofs.world_report.report.Goals as goal

pub returns : goal.returns
returns c =
    let text = rw c.in_ok-world_value.ensures at c.in_ok-text.ensures.text in
    IfOk-weaker c.of.result _ _ (λ blob h. h ∙ c.as_bytes.ensures.value ∙ text (report_without c.args.world.now)) c.of.ensures
