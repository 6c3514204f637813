use Rattle.std.proofs.Common.{ap, arith}
use Rattle.group_rules.specs.Script.{total}
use Rattle.world_wire.proofs.Numbered.{total_append}
use Rattle.world_wire.proofs.wire.Wire.amount_with.Goals as goal

pub returns-clause-bytes : goal.returns-clause-bytes
returns-clause-bytes c = omega (arith, total_append c.args.self.now c.args.fresh.now, c.in_ok-bytes.ensures, c.in_ok-total_of.ensures, c.self.invariant.0, ap total c.self.view_is)
