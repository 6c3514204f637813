use Rattle.wire_hub.specs.Passes.{IsTakePassOf}
use Rattle.wire_hub.proofs.tests.take_one.Given as goal

abbrev pub invariant-loop : goal.invariant-loop
invariant-loop g l = IsTakePassOf l.hub l.pass
