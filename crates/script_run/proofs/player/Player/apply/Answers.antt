use Rattle.std.proofs.Common.{◌∙◌, List, ap, arith, sym}
use Rattle.std.specs.Prelude.{flat_map}
use Rattle.std.proofs.lemmas.Result.{IfOk-weaker}
use Rattle.group_rules.specs.declared.said.Said.{Said}
use Rattle.group_rules.specs.Texts.{said_texts, texts_or_ok}
use Rattle.report_text.specs.Lines.{output_lines}
use Rattle.script_run.specs.Placing.{is_misplaced, with_line}
use Rattle.script_run.proofs.Players.{done_says, fault_says, misplaced_says}
use Rattle.script_run.proofs.player.Player.apply.Goals as goal

pub returns-then-is_misplaced-clause-said : goal.returns-then-is_misplaced-clause-said
returns-then-is_misplaced-clause-said c = λ s stands.
    let bad = ap (is_misplaced c.args.step) (sym stands.placing) ∙ sym c.is_misplaced.ensures ∙ c.if-is_misplaced.true in
    IfOk-weaker c.refuses.result _ _ (λ said h. misplaced_says said _ s c.args.number c.args.step bad h.0 h.1) c.refuses.ensures

pub returns-in_ok-step_text-in-Ok-clause-said : goal.returns-in_ok-step_text-in-Ok-clause-said
returns-in_ok-step_text-in-Ok-clause-said c = λ s stands.
    let good = ap (is_misplaced c.args.step) (sym stands.placing) ∙ sym c.is_misplaced.ensures ∙ c.if-is_misplaced.false in
    let here = c.in-Ok.ensures.stands s.play stands.world in
    let text = c.says.ensures.text ∙ c.in_ok-step_text-in-Ok.ensures ∙ ap (λ (xs : List Said). output_lines c.args.number (texts_or_ok (flat_map said_texts xs))) c.as_slice.ensures in
    done_says _ _ s c.args.number c.args.step c.in-Ok.said good (c.in-Ok.ensures.said s.play stands.world) c.says.ensures.status text
    (record { world = here; placing = c.with_line-self.ensures ∙ ap (with_line c.args.step) stands.placing; legal = λ t e. c.plays_are_legal.ensures _ _ t here e })

pub returns-in-Err-clause-said : goal.returns-in-Err-clause-said
returns-in-Err-clause-said c = λ s stands.
    let good = ap (is_misplaced c.args.step) (sym stands.placing) ∙ sym c.is_misplaced.ensures ∙ c.if-is_misplaced.false in
    IfOk-weaker c.fault_says.result _ _ (λ said h.
    fault_says c.in-Err.fault said _ s c.args.number c.args.step good (c.in-Err.ensures.fault s.play stands.world)
    (λ e. absurd (omega (arith, c.in-Err.ensures.spent e, c.requires.room))) h.2 h.0 h.1
    (λ r. let here = c.in-Err.ensures.refused r s.play stands.world in
    record { world = here; placing = c.with_line-self.ensures ∙ ap (with_line c.args.step) stands.placing; legal = λ t e. c.plays_are_legal.ensures _ _ t here e })) c.fault_says.ensures
