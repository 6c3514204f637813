use Rattle.std.proofs.Common.{◌≡◌, ◌∙◌, ◌||◌, Bool, false, rules, ap₂}
use Rattle.std.proofs.lemmas.Result.{IfOk-weaker}
use Rattle.clap.specs.Words.{rule_of, with_rule}
use Rattle.script_run.specs.Parsing.{report_rule}
use Rattle.script_run.proofs.parsing.play_words.Goals as goal

pub returns : goal.returns
returns c =
    let rule : rule_of c.action-report.result ≡ report_rule = search rules in
    let own : c.action-report.result.global ≡ false = search rules in
    record {
      shape = IfOk-weaker c.arg.result _ _ (λ p h. h.shape own ∙ ap₂ with_rule c.new-2.ensures.app rule) c.arg.ensures;
      local = IfOk-weaker c.arg.result _ _ (λ p h. h.globals ∙ ap₂ (λ (a b : Bool). a || b) c.new-2.ensures.local own) c.arg.ensures;
    }
