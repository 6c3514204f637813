use Rattle.std.proofs.Common.{[], sym, ◌∙◌}
use Rattle.gtid_sets.proofs.StepLemmas.{subset_step_skip, subset_step_covered, subset_step_not, subset_step_end}
use Rattle.gtid_sets.proofs.whole.covered.Goals as goal

pub returns-then-j-b : goal.returns-then-j-b
returns-then-j-b c = sym (subset_step_end c.args.a.now c.args.b.now c.loop-i.i c.loop-i.j (record { source = []; first = 0; last = 0 }) c.loop-i-test.true c.if-j-b.true) ∙ c.loop-i.invariant

pub loop-i-preserved-then-precedes : goal.loop-i-preserved-then-precedes
loop-i-preserved-then-precedes c = subset_step_skip c.args.a.now c.args.b.now c.loop-i.i c.loop-i.j _ c.loop-i-test.true c.if-j-b.false c.requires.first c.requires.second c.if-precedes.ensures ∙ c.loop-i.invariant

pub returns-then-not-is_covered : goal.returns-then-not-is_covered
returns-then-not-is_covered c = sym (subset_step_not c.args.a.now c.args.b.now c.loop-i.i c.loop-i.j _ c.loop-i-test.true c.if-j-b.false c.requires.first c.requires.second c.if-precedes.ensures c.if-not-is_covered.ensures) ∙ c.loop-i.invariant

pub loop-i-preserved : goal.loop-i-preserved
loop-i-preserved c = subset_step_covered c.args.a.now c.args.b.now c.loop-i.i c.loop-i.j _ c.loop-i-test.true c.if-j-b.false c.if-not-is_covered.ensures ∙ c.loop-i.invariant
