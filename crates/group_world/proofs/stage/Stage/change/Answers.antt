use Rattle.std.proofs.Common.{◌≡◌, length, sym, subst, arith, ◌∙◌}
use Rattle.group_rules.specs.Events.{Calls}
use Rattle.group_rules.specs.Script.{event, once_end}
use Rattle.group_world.specs.Standing.{Along, Closes, Ends}
use Rattle.group_world.proofs.Calls.{commits, rolls_back}
use Rattle.group_world.proofs.Changed.{tells}
use Rattle.group_world.proofs.Closing.{once_end_stays}
use Rattle.group_world.proofs.Parts.{ends_then}
use Rattle.group_world.proofs.Results.{err_is, if_err, on_ok}
use Rattle.group_world.proofs.stage.Stage.change.Goals as goal

pub returns-in_err-session-clause-full : goal.returns-in_err-session-clause-full
returns-in_err-session-clause-full c =
    err_is c.from_residual.result c.in_err-session.field-0.0 (Ends (λ y. once_end c.args.server c.args.session (event c.args.server (Calls c.args.session c.args.statement) y)) c.args.self.now) c.from_residual.ensures.1
    (ends_then (event c.args.server (Calls c.args.session c.args.statement)) (once_end c.args.server c.args.session) c.args.self.now c.in_err-session.field-0.0
    (once_end_stays c.args.server c.args.session) c.in_err-session.ensures.full)

pub returns-then-has_changed-clause-stands : goal.returns-then-has_changed-clause-stands
returns-then-has_changed-clause-stands c = on_ok c.session-then-has_changed.result c.session-then-has_changed.ensures.stands (λ g y a.
    let b = c.in_ok-session.ensures.stands y a in
    let long : c.len-before.result ≡ length c.args.self.now.said.items = omega (arith, c.len-before.ensures, c.args.self.now.said.ok.0) in
    let k = tells c.steps_are_plain.ensures.left c.args.server c.args.session c.args.statement y c.args.self.now c.session.new.self a b c.len-before.result c.deref.result.now c.has_changed.result long c.deref.ensures.value c.has_changed.ensures in
    let is = commits c.args.server c.args.session (event c.args.server (Calls c.args.session c.args.statement) y) (sym k ∙ c.if-has_changed.true) in
    subst (λ p. Along p c.session-then-has_changed.new.self) (sym is) (g _ b))

pub returns-then-has_changed-clause-full : goal.returns-then-has_changed-clause-full
returns-then-has_changed-clause-full c = if_err c.session-then-has_changed.result c.session-then-has_changed.ensures.full (λ f g y a.
    let b = c.in_ok-session.ensures.stands y a in
    let long : c.len-before.result ≡ length c.args.self.now.said.items = omega (arith, c.len-before.ensures, c.args.self.now.said.ok.0) in
    let k = tells c.steps_are_plain.ensures.left c.args.server c.args.session c.args.statement y c.args.self.now c.session.new.self a b c.len-before.result c.deref.result.now c.has_changed.result long c.deref.ensures.value c.has_changed.ensures in
    let is = commits c.args.server c.args.session (event c.args.server (Calls c.args.session c.args.statement) y) (sym k ∙ c.if-has_changed.true) in
    subst (Closes f) (sym is) (g _ b))

pub returns-else-has_changed-clause-stands : goal.returns-else-has_changed-clause-stands
returns-else-has_changed-clause-stands c = on_ok c.session-else-has_changed.result c.session-else-has_changed.ensures.stands (λ g y a.
    let b = c.in_ok-session.ensures.stands y a in
    let long : c.len-before.result ≡ length c.args.self.now.said.items = omega (arith, c.len-before.ensures, c.args.self.now.said.ok.0) in
    let k = tells c.steps_are_plain.ensures.left c.args.server c.args.session c.args.statement y c.args.self.now c.session.new.self a b c.len-before.result c.deref.result.now c.has_changed.result long c.deref.ensures.value c.has_changed.ensures in
    let is = rolls_back c.args.server c.args.session (event c.args.server (Calls c.args.session c.args.statement) y) (sym k ∙ c.if-has_changed.false) in
    subst (λ p. Along p c.session-else-has_changed.new.self) (sym is) (g _ b))

pub returns-else-has_changed-clause-full : goal.returns-else-has_changed-clause-full
returns-else-has_changed-clause-full c = if_err c.session-else-has_changed.result c.session-else-has_changed.ensures.full (λ f g y a.
    let b = c.in_ok-session.ensures.stands y a in
    let long : c.len-before.result ≡ length c.args.self.now.said.items = omega (arith, c.len-before.ensures, c.args.self.now.said.ok.0) in
    let k = tells c.steps_are_plain.ensures.left c.args.server c.args.session c.args.statement y c.args.self.now c.session.new.self a b c.len-before.result c.deref.result.now c.has_changed.result long c.deref.ensures.value c.has_changed.ensures in
    let is = rolls_back c.args.server c.args.session (event c.args.server (Calls c.args.session c.args.statement) y) (sym k ∙ c.if-has_changed.false) in
    subst (Closes f) (sym is) (g _ b))
