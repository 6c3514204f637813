use Rattle.std.proofs.Common.{◌∙◌, ◌++◌, ℕ, List, ap, sym}
use Rattle.std.specs.Prelude.{flat_map}
use Rattle.group_rules.specs.Texts.{Text, said_texts}
use Rattle.report_text.specs.Lines.{output_lines}
use Rattle.report_text.proofs.Says.{not_ok}
use Rattle.report_text.proofs.said.step_text.Goals as goal

pub returns : goal.returns
returns c =
    let empty = c.from_vec-text.ensures ∙ c.new.ensures.items in
    c.in_ok-put_each.ensures ∙ ap (λ (t : List ℕ). t ++ output_lines c.args.number (flat_map said_texts c.args.said.now)) empty
    ∙ ap (λ (ts : List Text). output_lines c.args.number ts) (sym (not_ok c.args.said.now (sym c.is_empty.ensures ∙ c.if-is_empty.false)))
