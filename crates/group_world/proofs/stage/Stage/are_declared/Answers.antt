-- The one is, and the others are.
use Rattle.std.proofs.Common.{ap, sym, ◌∙◌}
use Rattle.world_servers.specs.Naming.{is_there}
use Rattle.group_world.specs.Refusing.{passes}
use Rattle.group_world.proofs.Refused.{declared_all, first_fails, first_passes}
use Rattle.group_world.proofs.stage.Stage.are_declared.Goals as goal

pub returns-then-not-is_one_declared : goal.returns-then-not-is_one_declared
returns-then-not-is_one_declared c y a =
    let xs = c.args.self.now.servers in
    first_fails _ _ _ _ c.if-not-is_one_declared.true (declared_all xs y.world (λ n. c.servers_are_those_of_the_world.ensures.there y.world xs n a.holds.servers) c.args.step.now) (sym (c.is_one_declared.ensures ∙ ap (passes (is_there xs)) c.server_of.ensures))

pub returns : goal.returns
returns c y a =
    let xs = c.args.self.now.servers in
    first_passes _ _ _ _ _ c.if-not-is_one_declared.false (declared_all xs y.world (λ n. c.servers_are_those_of_the_world.ensures.there y.world xs n a.holds.servers) c.args.step.now) (sym (c.is_one_declared.ensures ∙ ap (passes (is_there xs)) c.server_of.ensures)) c.are_others_declared.ensures
