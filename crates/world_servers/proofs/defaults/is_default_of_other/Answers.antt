-- From the greatest number on, the first default that it is.
use Rattle.std.proofs.Common.{◌∙◌, sym, arith}
use Rattle.world_servers.proofs.Tabled.{found_default, other_default}
use Rattle.world_servers.proofs.defaults.is_default_of_other.Goals as goal

pub returns-then-is_default_of : goal.returns-then-is_default_of
returns-then-is_default_of c = sym (c.loop-other.invariant.1 ∙ found_default c.args.uuid c.args.number c.loop-other.other c.is_default_of.result c.loop-other-test.true c.is_default_of.ensures c.if-is_default_of.true)

pub loop-other-preserved : goal.loop-other-preserved
loop-other-preserved c = (omega (arith, c.loop-other.invariant.0), c.loop-other.invariant.1 ∙ other_default c.args.uuid c.args.number c.loop-other.other c.is_default_of.result c.loop-other-test.true c.is_default_of.ensures c.if-is_default_of.false)
