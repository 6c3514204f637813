-- What a step would declare is taken, or it would declare nothing.
use Rattle.std.proofs.Common.{sym, ap, ◌∙◌}
use Rattle.group_rules.specs.Script.{meets_declared}
use Rattle.group_world.proofs.Declared.{taken_is}
use Rattle.group_world.proofs.Refused.{declares_nothing}
use Rattle.group_world.proofs.stage.Stage.meets_declared.Goals as goal

pub returns-in-Server : goal.returns-in-Server
returns-in-Server c y a = c.is_taken.ensures ∙ (taken_is y c.args.self.now c.in-Server.number c.in-Server.uuid a c.servers_are_those_of_the_world.ensures.taken ∙ sym (ap (λ s. meets_declared s y.world) c.in-Server.is))

pub returns-in-Found : goal.returns-in-Found
returns-in-Found c y a = c.is_group_taken.ensures ∙ (c.servers_are_those_of_the_world.ensures.group y.world c.args.self.now.servers c.in-Found.group a.holds.servers ∙ sym (ap (λ s. meets_declared s y.world) c.in-Found.is))

pub returns-in_default : goal.returns-in_default
returns-in_default c y a = declares_nothing c.args.step.now y.world c.in_default.not-Server c.in_default.not-Found
