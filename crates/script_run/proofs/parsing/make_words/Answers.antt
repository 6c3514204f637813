use Rattle.std.proofs.Common.{◌≡◌, ◌∙◌, ◌||◌, Bool, false, rules, ap₂, codes}
use Rattle.std.proofs.lemmas.Result.{IfOk-weaker}
use Rattle.clap.specs.Words.{app_of, new_app, rule_of, with_rule}
use Rattle.script_run.specs.Parsing.{from_rule, steps_rule}
use Rattle.script_run.proofs.parsing.make_words.Goals as goal

pub returns : goal.returns
returns c =
    let steps_is : rule_of c.required-steps.result ≡ steps_rule = search rules in
    let from_is : rule_of c.required-from.result ≡ from_rule = search rules in
    let steps_own : c.required-steps.result.global ≡ false = search rules in
    let from_own : c.required-from.result.global ≡ false = search rules in
    let first : app_of c.in_ok-arg.field-0 ≡ with_rule (new_app (codes "make")) steps_rule = c.in_ok-arg.ensures.shape steps_own ∙ ap₂ with_rule c.new-3.ensures.app steps_is in
    let first_local = c.in_ok-arg.ensures.globals ∙ ap₂ (λ (a b : Bool). a || b) c.new-3.ensures.local steps_own in
    record {
      shape = IfOk-weaker c.arg-2.result _ _ (λ p h. h.shape from_own ∙ ap₂ with_rule first from_is) c.arg-2.ensures;
      local = IfOk-weaker c.arg-2.result _ _ (λ p h. h.globals ∙ ap₂ (λ (a b : Bool). a || b) first_local from_own) c.arg-2.ensures;
    }
