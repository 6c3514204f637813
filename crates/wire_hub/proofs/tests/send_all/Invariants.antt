use Rattle.std.proofs.Common.{◌≡◌, ◌≤◌}
use Rattle.wire_hub.specs.Passes.{IsSendPassOf}
use Rattle.wire_hub.proofs.tests.send_all.Given as goal

abbrev pub invariant-loop-index : goal.invariant-loop-index
invariant-loop-index g l = IsSendPassOf l.hub l.pass × (l.pass.name ≡ l.from) × (l.pass.last ≤ l.index)
