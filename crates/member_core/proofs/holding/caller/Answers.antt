use Rattle.std.proofs.Common.{ap, sym, ◌∙◌}
use Rattle.member_core.specs.Acting.{caller_of}
use Rattle.member_core.specs.Standing.{event_of}
use Rattle.member_core.proofs.Acted.{calls_none}
use Rattle.member_core.proofs.holding.caller.Goals as goal

pub returns-in-Session : goal.returns-in-Session
returns-in-Session c = λ base a st. c.unless_held.ensures base a c.in-Session.field-1 st ∙ ap (λ h. caller_of (event_of h) a) (sym c.in-Session.is)

pub returns-in_default : goal.returns-in_default
returns-in_default c = λ base a st. calls_none c.args.event.now a c.in_default.not-Session
