-- A look.
use Rattle.group_world.proofs.Looks.{looks_end, looks_on}
use Rattle.group_world.proofs.stage.Stage.does.Goals as goal

pub returns-in-ShowMembers-clause-stands : goal.returns-in-ShowMembers-clause-stands
returns-in-ShowMembers-clause-stands c = looks_on c.args.step c.args.self.now c.looks.new.self c.looks.result c.in-ShowMembers.is c.looks.ensures.stands

pub returns-in-ShowMembers-clause-full : goal.returns-in-ShowMembers-clause-full
returns-in-ShowMembers-clause-full c = looks_end c.args.step c.args.self.now c.looks.result c.in-ShowMembers.is c.looks.ensures.full
