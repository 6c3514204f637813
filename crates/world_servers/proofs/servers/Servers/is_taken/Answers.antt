-- One test after another.
use Rattle.std.proofs.Common.{◌∙◌, sym}
use Rattle.world_servers.specs.Naming.{has_uuid, is_there}
use Rattle.group_rules.specs.World.{is_default_of_other}
use Rattle.world_servers.proofs.Tabled.{first_true, second_true, neither}
use Rattle.world_servers.proofs.servers.Servers.is_taken.Goals as goal

pub returns-then-is_declared : goal.returns-then-is_declared
returns-then-is_declared c = first_true (is_there c.args.self.now c.args.number) _ (sym c.if-is_declared.true ∙ c.is_declared.ensures)

pub returns-then-has_uuid : goal.returns-then-has_uuid
returns-then-has_uuid c = second_true (is_there c.args.self.now c.args.number) (has_uuid c.args.self.now c.args.uuid) _ (sym c.if-is_declared.false ∙ c.is_declared.ensures) (sym c.if-has_uuid.true ∙ c.has_uuid.ensures)

pub returns : goal.returns
returns c = neither (is_there c.args.self.now c.args.number) (has_uuid c.args.self.now c.args.uuid) c.is_default_of_other.result (is_default_of_other c.args.uuid c.args.number 32) (sym c.if-is_declared.false ∙ c.is_declared.ensures) (sym c.if-has_uuid.false ∙ c.has_uuid.ensures) c.is_default_of_other.ensures
