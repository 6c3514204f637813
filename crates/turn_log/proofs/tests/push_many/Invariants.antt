use Rattle.std.proofs.Common.{◌≡◌}
use Rattle.turn_log.proofs.tests.push_many.Given as goal

abbrev pub invariant-loop-x : goal.invariant-loop-x
invariant-loop-x g l = l.pass.seat.table_id ≡ l.initial.pass.seat.table_id
