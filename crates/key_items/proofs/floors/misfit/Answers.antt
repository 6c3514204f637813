use Rattle.std.proofs.Common.{◌≡◌, sym, ◌∙◌, arith}
use Rattle.key_items.proofs.Above.{outcome_done, outcome_empty, outcome_all, outcome_below, outcome_above, outcome_stuck, outcome_tie}
use Rattle.key_items.proofs.floors.misfit.Goals as goal

pub returns-in_default : goal.returns-in_default
returns-in_default c = sym (outcome_empty c.loop-more.under.now c.args.itself c.loop-more.more c.loop-more.rest.now c.loop-more-test.true c.in_default.ensures.cases) ∙ c.loop-more.invariant

pub returns-in_default-split_first : goal.returns-in_default-split_first
returns-in_default-split_first c =
    outcome_all c.loop-more.under.now c.args.itself c.loop-more.more c.loop-more.rest.now c.shortage.result c.loop-more-test.true c.in_default-split_first.ensures.cases
    (record { enough = c.shortage.ensures.enough; few = c.shortage.ensures.few })
    ∙ c.loop-more.invariant

pub returns-then-byte-least : goal.returns-then-byte-least
returns-then-byte-least c =
    sym (outcome_below c.loop-more.under.now c.args.itself c.loop-more.more c.loop-more.rest.now _ _ _ _ c.loop-more-test.true c.in-Some.ensures.cases.0 c.in-Some-split_first.ensures.cases.0 c.if-byte-least.true)
    ∙ c.loop-more.invariant

pub returns-then-byte-least-2 : goal.returns-then-byte-least-2
returns-then-byte-least-2 c =
    outcome_above c.loop-more.under.now c.args.itself c.loop-more.more c.loop-more.rest.now _ _ _ _ c.shortage-then-byte-least-2.result c.loop-more-test.true c.in-Some.ensures.cases.0 c.in-Some-split_first.ensures.cases.0 c.if-byte-least-2.true
    (record { enough = c.shortage-then-byte-least-2.ensures.enough; few = c.shortage-then-byte-least-2.ensures.few })
    ∙ c.loop-more.invariant

pub returns-then-not-can_pass : goal.returns-then-not-can_pass
returns-then-not-can_pass c =
    let same : c.in-Some.byte.now ≡ c.in-Some-split_first.least.now = omega arith in
    sym (outcome_stuck c.loop-more.under.now c.args.itself c.loop-more.more c.loop-more.rest.now _ _ _ _ c.loop-more-test.true c.in-Some.ensures.cases.0 c.in-Some-split_first.ensures.cases.0 same (sym c.can_pass.ensures ∙ c.if-not-can_pass.true))
    ∙ c.loop-more.invariant

pub loop-more-preserved : goal.loop-more-preserved
loop-more-preserved c =
    let same : c.in-Some.byte.now ≡ c.in-Some-split_first.least.now = omega arith in
    outcome_tie c.loop-more.under.now c.args.itself c.loop-more.more c.loop-more.rest.now _ _ _ _ c.loop-more-test.true c.in-Some.ensures.cases.0 c.in-Some-split_first.ensures.cases.0 same (sym c.can_pass.ensures ∙ c.if-not-can_pass.false)
    ∙ c.loop-more.invariant

pub returns : goal.returns
returns c = sym (outcome_done c.loop-more.under.now c.args.itself c.loop-more.more c.loop-more.rest.now c.loop-more-test.false) ∙ c.loop-more.invariant
