-- One founder more.
use Rattle.member_ranges.specs.Ranges.{setup_with}
use Rattle.group_world.proofs.Founded.{all_founded, is_founder, none_yet, one_more}
use Rattle.group_world.proofs.stage.Stage.found_all.Goals as goal

pub loop-founder-init : goal.loop-founder-init
loop-founder-init c = none_yet (setup_with c.args.founding.now.limits c.args.founding.now.mode c.args.founding.now.founders.items) c.as_slice-left.result.now c.args.self.now c.as_slice-left.ensures.value

pub found_at-requires-clause-founder : goal.found_at-requires-clause-founder
found_at-requires-clause-founder c =
    is_founder (setup_with c.args.founding.now.limits c.args.founding.now.mode c.args.founding.now.founders.items) c.loop-founder.left.now c.in-Some.founder.now c.in-Some.behind.now c.args.self.now c.loop-founder.self c.in-Some.ensures.cases.0 c.loop-founder.invariant

pub loop-founder-preserved : goal.loop-founder-preserved
loop-founder-preserved c =
    one_more (setup_with c.args.founding.now.limits c.args.founding.now.mode c.args.founding.now.founders.items) c.loop-founder.left.now c.in-Some.founder.now c.in-Some.behind.now c.args.self.now c.loop-founder.self c.found_at.new.self c.in-Some.ensures.cases.0 c.loop-founder.invariant
    c.in_ok-found_at.ensures.within c.in_ok-found_at.ensures.founded

pub returns-clause-founded : goal.returns-clause-founded
returns-clause-founded c = all_founded (setup_with c.args.founding.now.limits c.args.founding.now.mode c.args.founding.now.founders.items) c.loop-founder.left.now c.args.self.now c.loop-founder.self c.in_default.ensures.cases c.loop-founder.invariant

pub returns-clause-within : goal.returns-clause-within
returns-clause-within c = c.loop-founder.invariant.0.0
