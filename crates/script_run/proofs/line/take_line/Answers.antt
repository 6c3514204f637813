use Rattle.std.proofs.Common.{◌∙◌, subst, sym}
use Rattle.script_run.specs.Play.{Outcome}
use Rattle.script_run.specs.Standing.{SaidBy}
use Rattle.script_run.specs.Texts.{lines_text}
use Rattle.script_run.proofs.Players.{past_says}
use Rattle.script_run.proofs.Steps.{line_step_past}
use Rattle.script_run.proofs.line.take_line.Goals as goal

pub returns-then-number-gt-LINES_LIMIT-clause-said : goal.returns-then-number-gt-LINES_LIMIT-clause-said
returns-then-number-gt-LINES_LIMIT-clause-said c = λ s stands.
    subst (λ (o : Outcome). SaidBy c.passes.result c.args.player.now o) (sym (line_step_past s c.args.number c.args.line.now c.if-number-gt-LINES_LIMIT.true))
    (past_says c.passes.result c.args.player.now s (lines_text c.args.number) c.passes.ensures.status (c.passes.ensures.text ∙ c.in_ok-line_text.ensures))
