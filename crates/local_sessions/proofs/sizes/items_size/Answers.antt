-- Nothing is left.
use Rattle.std.proofs.Common.{arith}
use Rattle.local_sessions.proofs.Sums.{no_items}
use Rattle.local_sessions.proofs.sizes.items_size.Goals as goal

pub returns : goal.returns
returns c = omega (arith, c.loop-item.invariant.0, c.loop-item.invariant.1, no_items c.args.items.now c.loop-item.item-index c.loop-item-test.false)
