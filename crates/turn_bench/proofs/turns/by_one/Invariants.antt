use Rattle.std.proofs.Common.{◌≡◌}
use Rattle.turn_bench.proofs.turns.by_one.Given as goal

abbrev pub invariant-loop : goal.invariant-loop
invariant-loop g l = l.pass.seat.table_id ≡ l.initial.pass.seat.table_id
