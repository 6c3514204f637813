use Rattle.std.proofs.Common.{◌≡◌}
use Rattle.std.specs.Prelude.{replicate}
use Rattle.slot_values.proofs.turns.repeated.Given as goal

abbrev pub invariant-loop : goal.invariant-loop
invariant-loop l = l.configs.items ≡ replicate l.counter l.config
