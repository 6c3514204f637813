-- Nothing is left.
use Rattle.std.proofs.Common.{arith}
use Rattle.local_sessions.proofs.Sums.{no_changes}
use Rattle.local_sessions.proofs.sizes.changes_size.Goals as goal

pub returns : goal.returns
returns c = omega (arith, c.loop-change.invariant.0, c.loop-change.invariant.1, no_changes c.args.changes.now c.loop-change.change-index c.loop-change-test.false)
