use Rattle.group_rules.specs.World.{Happens}
use Rattle.member_core.specs.Standing.{event_of}
use Rattle.group_world.proofs.Own.{happens}
use Rattle.group_world.proofs.Results.{if_err, on_ok}
use Rattle.group_world.proofs.stage.Stage.event.Goals as goal

pub returns-clause-stands : goal.returns-clause-stands
returns-clause-stands c =
    on_ok c.hand.result c.hand.ensures.stands (λ h y a. h y (Happens c.args.server (event_of c.args.event)) a (happens c.args.server (event_of c.args.event) y.world c.requires.own))

pub returns-clause-full : goal.returns-clause-full
returns-clause-full c =
    if_err c.hand.result c.hand.ensures.full (λ f h y a. h y (Happens c.args.server (event_of c.args.event)) a (happens c.args.server (event_of c.args.event) y.world c.requires.own))
