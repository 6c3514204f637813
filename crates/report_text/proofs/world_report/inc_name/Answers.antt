use Rattle.std.proofs.lemmas.Result.{IfOk-weaker}
use Rattle.std.proofs.Common.{◌∙◌, arith}
use Rattle.report_text.proofs.Numerals.{inc_is}
use Rattle.report_text.proofs.world_report.inc_name.Goals as goal

pub returns : goal.returns
returns c =
    IfOk-weaker c.format.result _ _ (λ text e. e ∙ inc_is c.args.server c.args.start (omega arith) (omega arith)) c.format.ensures.ok
