-- The lines so far, and of the others.
use Rattle.std.proofs.Common.{◌≡◌, ◌+◌, ◌++◌, drop}
use Rattle.group_rules.specs.Script.{wire_lines}
use Rattle.world_wire.proofs.letters.all_lines.Given as goal

abbrev pub invariant-loop-at : goal.invariant-loop-at
invariant-loop-at l = l.lines.items ++ wire_lines (l.at + 1) (drop l.at l.letters) ≡ wire_lines 1 l.letters
