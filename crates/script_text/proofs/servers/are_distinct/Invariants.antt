use Rattle.std.proofs.Common.{◌≡◌, length}
use Rattle.script_text.specs.Servers.{are_distinct}
use Rattle.script_text.proofs.servers.are_distinct.Given as goal

abbrev pub invariant-loop-rest : goal.invariant-loop-rest
invariant-loop-rest l = are_distinct l.rest ≡ are_distinct l.servers

abbrev pub decreases-loop-rest : goal.decreases-loop-rest
decreases-loop-rest l = length l.rest
