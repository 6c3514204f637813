-- Nothing is left.
use Rattle.std.proofs.Common.{arith}
use Rattle.local_sessions.proofs.Lengths.{no_runs}
use Rattle.local_sessions.proofs.sizes.runs_size.Goals as goal

pub returns : goal.returns
returns c = omega (arith, c.loop-run.invariant.0, c.loop-run.invariant.1, no_runs c.loop-run.left.now c.in_default.ensures.cases)
