use Rattle.std.proofs.Common.{◌≤◌, ◌⊎◌, length, inl, inr, sym, ◌∙◌}
use Rattle.gtid_sets.proofs.StepLemmas.{meet_step_left, meet_step_right, meet_end}
use Rattle.gtid_sets.proofs.parts.met.Goals as goal
use Rattle.gtid_sets.proofs.parts.met.Goals.{then-loop-i-test+else-j-b, else-loop-i-test}

pub loop-i-preserved-then-ends_first : goal.loop-i-preserved-then-ends_first
loop-i-preserved-then-ends_first c =
    meet_step_left c.args.a.now c.args.b.now c.loop-i.runs.items c.push_common.new.runs.items c.loop-i.i c.loop-i.j _ c.loop-i-test.true c.if-j-b.true c.requires.first c.requires.second c.if-ends_first.ensures c.in_ok-push_common.ensures ∙ c.loop-i.invariant

pub loop-i-preserved : goal.loop-i-preserved
loop-i-preserved c =
    meet_step_right c.args.a.now c.args.b.now c.loop-i.runs.items c.push_common.new.runs.items c.loop-i.i c.loop-i.j _ c.loop-i-test.true c.if-j-b.true c.requires.first c.requires.second c.if-ends_first.ensures c.in_ok-push_common.ensures ∙ c.loop-i.invariant

pub returns : goal.returns
returns c =
    let over : (length c.args.a.now ≤ c.loop-i.i) ⊎ (length c.args.b.now ≤ c.loop-i.j) = elim c.loop-i-test.branch [ then-loop-i-test+else-j-b w ↦ inr w.if-j-b.false | else-loop-i-test w ↦ inl w.loop-i-test.false ] in
    sym (meet_end c.args.a.now c.args.b.now c.loop-i.runs.items c.loop-i.i c.loop-i.j over) ∙ c.loop-i.invariant
