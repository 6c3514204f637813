-- One test after another.
use Rattle.std.proofs.Common.{◌||◌, ◌∙◌, ap, sym}
use Rattle.world_servers.specs.Naming.{has_uuid}
use Rattle.group_rules.specs.World.{is_default_of_other}
use Rattle.world_servers.proofs.Tabled.{first_true}
use Rattle.world_servers.proofs.servers.Servers.is_group_taken.Goals as goal

pub returns-then-has_uuid : goal.returns-then-has_uuid
returns-then-has_uuid c = first_true (has_uuid c.args.self.now c.args.group) _ (sym c.if-has_uuid.true ∙ c.has_uuid.ensures)

pub returns : goal.returns
returns c = c.is_default_of_other.ensures ∙ ap (λ x. x || is_default_of_other c.args.group 0 32) (sym c.if-has_uuid.false ∙ c.has_uuid.ensures)
