use Rattle.std.proofs.Common.{◌≡◌, ◌+◌, ◌++◌, ◌∙◌, Some, List, [], length, ap, arith, subst, sym}
use Rattle.std.specs.List.{AllByRecursion}
use Rattle.std.proofs.lemmas.Result.{IfOk-weaker}
use Rattle.group_rules.specs.Script.{Full, new_play}
use Rattle.report_text.specs.Summaries.{verdicts}
use Rattle.script_text.specs.declared.line.Line.{Line}
use Rattle.script_text.specs.Ranges.{IsInRange}
use Rattle.script_run.specs.Making.{Passes, ending_of, made_ending, step_play, step_said}
use Rattle.script_run.proofs.Makers.{ending_goes, ending_stops, ends_full, ends_whole, made_length}
use Rattle.script_run.proofs.make.say_made.Goals as goal

pub loop-line-init : goal.loop-line-init
unfolding made_ending
loop-line-init c =
    let all = c.into_iter-line-iterator.ensures.into_iter_gives.0 ∙ c.in_ok-line-items.ensures.lines in
    record {
      play = new_play;
      verdicts = [];
      stands = c.new-maker.ensures.stands;
      same = ap (ending_of new_play []) all;
      range = subst (λ (ls : List Line). AllByRecursion IsInRange ls) (sym c.into_iter-line-iterator.ensures.into_iter_gives.0) c.in_ok-line-items.ensures.range;
      steps = omega (arith, c.new-maker.ensures.steps, ap length all, made_length c.args.n c.args.from, c.requires);
    }

pub take-requires-clause-room : goal.take-requires-clause-room
take-requires-clause-room c = omega (arith, c.loop-line.invariant.steps)

pub loop-line-preserved : goal.loop-line-preserved
loop-line-preserved c =
    let i = c.loop-line.invariant in
    let front = c.in-Some.ensures.steps.0 in
    let z = step_play c.in-Some.line.step i.play in
    let stands = c.in-Ok.ensures.stands i.play i.verdicts i.stands in
    record {
      play = z;
      verdicts = i.verdicts ++ verdicts (step_said c.in-Some.line.step z);
      stands = stands;
      same = sym (ending_goes i.play i.verdicts c.in-Some.line c.next.new.self.rest.items stands.closed) ∙ ap (ending_of i.play i.verdicts) (sym front) ∙ i.same;
      range = (subst (λ (ls : List Line). AllByRecursion IsInRange ls) front i.range).1;
      steps = omega (arith, i.steps, c.in-Ok.ensures.steps, ap length front);
    }

pub returns-in-Err : goal.returns-in-Err
returns-in-Err c =
    let i = c.loop-line.invariant in
    let front = c.in-Some.ensures.steps.0 in
    let z = step_play c.in-Some.line.step i.play in
    let ends : (f : Full) → z.closed ≡ Some f → made_ending c.args.n c.args.from ≡ Passes c.in-Some.line.number f i.play =
    λ f stops. sym i.same ∙ ap (ending_of i.play i.verdicts) front ∙ ending_stops i.play i.verdicts c.in-Some.line c.next.new.self.rest.items f stops in
    IfOk-weaker c.fault_says.result _ _ (λ said h.
    ends_full (c.args.n + 2) c.in-Some.line.number said c.in-Err.fault z i.play (made_ending c.args.n c.args.from) (c.in-Err.ensures.fault i.play i.verdicts i.stands) i.stands.legal ends h.0 h.1 h.2) c.fault_says.ensures

pub returns : goal.returns
returns c =
    let i = c.loop-line.invariant in
    let none : length c.loop-line.line-iterator.rest.items ≡ 0 = omega (arith, c.in-None.ensures.steps.0, c.loop-line.line-iterator.rest.ok.0) in
    ends_whole (c.args.n + 2) c.says.result i.play i.verdicts c.loop-line.line-iterator.rest.items (made_ending c.args.n c.args.from) none i.same i.stands.legal c.says.ensures.status
    (c.says.ensures.text ∙ c.in_ok-summary.ensures i.play i.verdicts i.stands)
