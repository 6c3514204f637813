-- Its member has taken the event.
use Rattle.member_core.specs.Standing.{event_of}
use Rattle.group_world.proofs.Stepped.{site_steps}
use Rattle.group_world.proofs.site.Site.step.Goals as goal

pub returns-in_ok-turn_of-in-Running : goal.returns-in_ok-turn_of-in-Running
returns-in_ok-turn_of-in-Running c s h =
    site_steps (event_of c.args.event) s c.args.self.now c.in-Running.member c.turn_of.new.member c.in_ok-turn_of-in-Running.field-0
    (λ a. c.steps_are_plain.ensures.stored (event_of c.args.event) a) c.in-Running.is c.in_ok-turn_of-in-Running.ensures h
