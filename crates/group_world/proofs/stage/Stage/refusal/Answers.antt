-- The first reason that there is.
use Rattle.std.proofs.Common.{Some, None, refl, sym, ◌∙◌}
use Rattle.group_rules.specs.Script.{AlreadyRunning, Declared, NoMember, NoServer}
use Rattle.group_world.proofs.Refused.{at_declared, at_member, at_none, at_running, at_server, at_wire}
use Rattle.group_world.proofs.stage.Stage.refusal.Goals as goal

pub returns-then-meets_declared-clause-why : goal.returns-then-meets_declared-clause-why
returns-then-meets_declared-clause-why c y a = at_declared c.args.step.now y (sym (c.meets_declared.ensures y a) ∙ c.if-meets_declared.true)

pub returns-then-not-are_declared-clause-why : goal.returns-then-not-are_declared-clause-why
returns-then-not-are_declared-clause-why c y a = at_server c.args.step.now y (sym (c.meets_declared.ensures y a) ∙ c.if-meets_declared.false) (sym (c.are_declared.ensures y a) ∙ c.if-not-are_declared.true)

pub returns-then-is_in_use-clause-why : goal.returns-then-is_in_use-clause-why
returns-then-is_in_use-clause-why c y a =
    at_running c.args.step.now y (sym (c.meets_declared.ensures y a) ∙ c.if-meets_declared.false) (sym (c.are_declared.ensures y a) ∙ c.if-not-are_declared.false) (sym (c.is_in_use.ensures y a) ∙ c.if-is_in_use.true)

pub returns-in-Some-clause-why : goal.returns-in-Some-clause-why
returns-in-Some-clause-why c y a =
    at_wire c.args.step.now y (sym (c.meets_declared.ensures y a) ∙ c.if-meets_declared.false) (sym (c.are_declared.ensures y a) ∙ c.if-not-are_declared.false) (sym (c.is_in_use.ensures y a) ∙ c.if-is_in_use.false)
    c.wire_fault.result c.in-Some.fault (c.wire_fault.ensures.why y a) c.in-Some.is

pub returns-then-not-all_run-clause-why : goal.returns-then-not-all_run-clause-why
returns-then-not-all_run-clause-why c y a =
    at_member c.args.step.now y (sym (c.meets_declared.ensures y a) ∙ c.if-meets_declared.false) (sym (c.are_declared.ensures y a) ∙ c.if-not-are_declared.false) (sym (c.is_in_use.ensures y a) ∙ c.if-is_in_use.false)
    c.wire_fault.result (c.wire_fault.ensures.why y a) c.in_default.is (sym (c.all_run.ensures y a) ∙ c.if-not-all_run.true)

pub returns-clause-why : goal.returns-clause-why
returns-clause-why c y a =
    at_none c.args.step.now y (sym (c.meets_declared.ensures y a) ∙ c.if-meets_declared.false) (sym (c.are_declared.ensures y a) ∙ c.if-not-are_declared.false) (sym (c.is_in_use.ensures y a) ∙ c.if-is_in_use.false)
    c.wire_fault.result (c.wire_fault.ensures.why y a) c.in_default.is (sym (c.all_run.ensures y a) ∙ c.if-not-all_run.false)

pub returns-then-meets_declared-clause-kind : goal.returns-then-meets_declared-clause-kind
returns-then-meets_declared-clause-kind c = (Some Declared, refl)

pub returns-then-not-are_declared-clause-kind : goal.returns-then-not-are_declared-clause-kind
returns-then-not-are_declared-clause-kind c = (Some NoServer, refl)

pub returns-then-is_in_use-clause-kind : goal.returns-then-is_in_use-clause-kind
returns-then-is_in_use-clause-kind c = (Some AlreadyRunning, refl)

pub returns-in-Some-clause-kind : goal.returns-in-Some-clause-kind
returns-in-Some-clause-kind c = (c.wire_fault.ensures.kind.0, sym c.in-Some.is ∙ c.wire_fault.ensures.kind.1)

pub returns-then-not-all_run-clause-kind : goal.returns-then-not-all_run-clause-kind
returns-then-not-all_run-clause-kind c = (Some NoMember, refl)

pub returns-clause-kind : goal.returns-clause-kind
returns-clause-kind c = (None, refl)
